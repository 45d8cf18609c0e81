-- What the sequences of lists and of sp do.
use Rattle.std.specs.Prelude.{◌≡◌, ℕ, true, List, [], ◌∷◌}
use Rattle.thumb_instr.specs.declared.instructions.Instr.{Instr}
use Rattle.seq_core.specs.Classes.{has_pc, moves_list_base, steps_stack}
use Rattle.seq_core.specs.Groups.{IsFree}
use Rattle.seq_core.specs.Built.{as_steps}
use Rattle.seq_core.specs.Replaced.{moved_list, popped, stack_stepped}
use Rattle.seq_core.specs.Builders.{AreCoded, Do, HasRow, loses, own_test}

-- However often each stands, instructions do another one by way of a register, and they have codes.
pub record IsDoneBy (i : Instr) (q : ℕ) (instrs : List Instr) : Type 0 where
  pub does : (copies : ℕ) → Do (own_test i) i (loses i (q ∷ [])) copies (as_steps copies instrs)
  pub coded : (copies : ℕ) → AreCoded (as_steps copies instrs)

-- a list that moves its base
abbrev pub MovedListsWork : Type 0
MovedListsWork = (i : Instr) (q : ℕ) → HasRow i → moves_list_base i ≡ true → IsFree i q → IsDoneBy i q (moved_list i q)

-- a list with pc
abbrev pub ReturnsWork : Type 0
ReturnsWork = (i : Instr) (q : ℕ) → HasRow i → has_pc i ≡ true → IsFree i q → IsDoneBy i q (popped i q)

-- a sum with sp that is put into sp
abbrev pub StackStepsWork : Type 0
StackStepsWork = (i : Instr) (q : ℕ) → HasRow i → steps_stack i ≡ true → IsFree i q → IsDoneBy i q (stack_stepped i q)
