-- The copies of a unit's steps, and how many bytes they take by the widths that they have.
use Rattle.std.specs.Prelude.{ℕ, List, [], ◌∷◌, ◌++◌, replicate, take, sum_by}
use Rattle.thumb_encode.specs.declared.codes.Width.{Width}
use Rattle.thumb_encode.specs.declared.codes.Width.TheVariants.{Half, Full}
use Rattle.seq_core.specs.declared.steps.Step.{Step}

-- each step, as often in a row as it says
abbrev pub copies_of : List Step → List Step
copies_of [] = []
copies_of (s ∷ ss) = replicate s.copies s ++ copies_of ss

abbrev pub bytes_of : Width → ℕ
bytes_of Half = 2
bytes_of Full = 4

-- the bytes of copies of these widths, and of those before one of them, by its index
abbrev pub length_of : List Width → ℕ
length_of ws = sum_by bytes_of ws

abbrev pub bytes_before : List Width → ℕ → ℕ
bytes_before ws k = length_of (take k ws)
