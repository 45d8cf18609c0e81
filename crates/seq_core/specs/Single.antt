-- Sequences of single copies, for where nothing is skipped.
use Rattle.std.specs.Prelude.{◌≡◌, ℕ, Bool, false, List, [], ◌∷◌}
use Rattle.thumb_instr.specs.declared.instructions.Instr.{Instr}
use Rattle.thumb_table.specs.States.{Core}
use Rattle.thumb_table.specs.Conditions.{holds}
use Rattle.seq_core.specs.Does.{Effect}
use Rattle.seq_core.specs.Meanings.{Ends, meant}
use Rattle.seq_core.specs.Reading.{starts_block}
use Rattle.seq_core.specs.Sequences.{Carries, Settles, Moves}
use Rattle.seq_core.specs.Groups.{nothing}
use Rattle.seq_core.specs.Twice.{own_condition}

-- Any instruction but IT does its own work, jumps and calls among them.
abbrev pub ItselfCarries : Type 0
ItselfCarries = (i : Instr) (e : Ends) (end : ℕ) → starts_block i ≡ false → Carries Moves end (λ y. holds (own_condition i) y) (meant i e) nothing (meant i e ∷ [])

-- Groups that may be done again do the same by one copy each.
abbrev pub SettledCarries : Type 0
SettledCarries = (end : ℕ) (taken : Core → Bool) (effect : Effect) (loses : ℕ → Bool) (groups : List Effect) → Carries Settles end taken effect loses groups → Carries Moves end taken effect loses groups
