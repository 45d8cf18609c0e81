-- The classes Twice, Through and BaseCopy, of instructions that halfwords stand for.
use Rattle.std.specs.Prelude.{◌≡◌, ℕ, true, false, [], ◌∷◌, Some, Ok, map}
use Rattle.thumb_instr.specs.declared.instructions.Instr.{Instr}
use Rattle.thumb_instr.specs.declared.refusals.ItPlace.{ItPlace}
use Rattle.thumb_instr.specs.Idempotence.{IsIdempotent}
use Rattle.thumb_instr.specs.Rows.{decode}
use Rattle.thumb_table.specs.Conditions.{holds}
use Rattle.seq_core.specs.Meanings.{Ends, meant}
use Rattle.seq_core.specs.Sent.{destination, sent}
use Rattle.seq_core.specs.Sequences.{Carries, Settles}
use Rattle.seq_core.specs.Groups.{always, done, moving, nothing, only, IsFree}
use Rattle.seq_core.specs.Twice.{own_condition}
use Rattle.seq_core.specs.Through.{has_one}
use Rattle.seq_core.specs.Classes.{loads_own_base}
use Rattle.seq_core.specs.Replaced.{base_copied}

-- That it is idempotent is enough for it to stay as it is.
abbrev pub IdempotentDecodes : Type 0
IdempotentDecodes = (place : ItPlace) (first second : ℕ) (i : Instr) (e : Ends) (end : ℕ) → decode place first second ≡ Ok i → IsIdempotent i →
    Carries Settles end (λ y. holds (own_condition i) y) (meant i e) nothing (meant i e ∷ [])

-- With one destination, any free register is enough for its value to go through.
abbrev pub ThroughDecodes : Type 0
ThroughDecodes = (place : ItPlace) (first second : ℕ) (i : Instr) (d q end : ℕ) → decode place first second ≡ Ok i → has_one i ≡ true → destination i ≡ Some d → IsFree i q →
    Carries Settles end always (done i) (only q) (done (sent i q) ∷ done (moving false d q) ∷ [])

-- What has its base loads from a copy of it.
abbrev pub BaseCopyDecodes : Type 0
BaseCopyDecodes = (place : ItPlace) (first second : ℕ) (i : Instr) (q end : ℕ) → decode place first second ≡ Ok i → loads_own_base i ≡ true → IsFree i q →
    Carries Settles end always (done i) (only q) (map done (base_copied i q))
