-- Lines and words as they are printed.
use Rattle.std.specs.Prelude.{ℕ, ◌-◌, false, List, [], ◌∷◌, ◌++◌, length, codes, replicate}
use Rattle.std.specs.Fmt.{digits}

-- every line ends with a line feed
abbrev pub line : List ℕ → List ℕ
line text = text ++ 10 ∷ []

-- a word, in eight lower-case hexadecimal digits
abbrev pub word_text : ℕ → List ℕ
word_text n = codes "0x" ++ replicate (8 - length (digits 16 false n)) 48 ++ digits 16 false n
