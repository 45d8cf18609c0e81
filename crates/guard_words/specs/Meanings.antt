-- What a line of words means: one command with its parameters, or nothing.
use Rattle.std.specs.Prelude.{ℕ, List}
use Rattle.guard_words.specs.Words.{Pair, IsHarden, LinkWords, IsLink, RunWords, IsRun, IsList, MakeWords, IsMake}

pub data Meaning : Type 0 where
  harden : List Pair → Meaning
  link : LinkWords → Meaning
  run : RunWords → Meaning
  list : List ℕ → Meaning
  make : MakeWords → Meaning

abbrev pub Means : List (List ℕ) → Meaning → Type 0
Means words (harden pairs) = IsHarden words pairs
Means words (link l) = IsLink words l
Means words (run r) = IsRun words r
Means words (list input) = IsList words input
Means words (make m) = IsMake words m

abbrev pub IsCommand : List (List ℕ) → Type 0
IsCommand words = (m : Meaning) × Means words m
