-- Which command the words are.
use Rattle.std.specs.Prelude.{◌≡◌, ◌⊎◌, ℕ, List, [], ◌∷◌}
use Rattle.guard_words.specs.declared.words.Command.{Command}
use Rattle.guard_words.specs.declared.words.Command.TheVariants.{Unknown, Task as carried, NoMemory}
use Rattle.guard_words.specs.Words.{RunWords, IsRun, IsList, listed}
use Rattle.guard_words.specs.Meanings.{Means, IsCommand}
use Rattle.guard_words.specs.Tasks.{meaning_by}

-- the first word
abbrev pub IsHeadedBy : List ℕ → List (List ℕ) → Type 0
IsHeadedBy word [] = ⊥
IsHeadedBy word (first ∷ rest) = first ≡ word

-- words for which memory is wanted as they are read: for the plan of a `run`, and to bind the file word of `list`
abbrev pub WantsMemory : List (List ℕ) → Type 0
WantsMemory words = ((r : RunWords) × (steps : List ℕ) × IsRun words r × (r.skips ≡ listed steps)) ⊎ ((input : List ℕ) × IsList words input)

-- what is said of the words by the command that they are read as
abbrev pub IsUnderstoodAs : List (List ℕ) → Command → Type 0
IsUnderstoodAs words Unknown = IsCommand words → ⊥
IsUnderstoodAs words (carried t) = Means words (meaning_by t)
IsUnderstoodAs words NoMemory = WantsMemory words
