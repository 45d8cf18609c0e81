-- Words that could not be read for want of memory.
use Rattle.std.proofs.Common.{inl, inr, ℕ, List}
use Rattle.guard_cli.specs.declared.endings.Ending.TheVariants.{NoMemory}
use Rattle.guard_cli.specs.Texts.{no_memory_line}
use Rattle.guard_words.specs.Commands.{WantsMemory}
use Rattle.guard_words.specs.Meanings.{Meaning, run, list, Means}
use Rattle.guard_cli.specs.Meant.{work_of}
use Rattle.guard_cli.specs.Moments.{Files, Screen, Untouched, IsToldOf}
use Rattle.guard_cli.specs.Endings.{EndsAs}
use Rattle.guard_words.proofs.Meanings.{meant}

-- a command whose words could not be read ends as its work says
pub wanting_ends : (old new : Files) (screen after : Screen) (words : List (List ℕ)) (m : Meaning) → WantsMemory words → Untouched old new × IsToldOf no_memory_line screen after → Means words m
    → EndsAs (work_of m) old new screen after NoMemory
wanting_ends old new screen after words m (inl n) h k = meant words (run n.0) m (λ (m : Meaning). EndsAs (work_of m) old new screen after NoMemory) n.2 k (inl h)
wanting_ends old new screen after words m (inr n) h k = meant words (list n.0) m (λ (m : Meaning). EndsAs (work_of m) old new screen after NoMemory) n.1 k (inl h)

-- Such words mean something.
pub wanting_means : (words : List (List ℕ)) → WantsMemory words → (m : Meaning) × Means words m
wanting_means words (inl n) = (run n.0, n.2)
wanting_means words (inr n) = (list n.0, n.1)
