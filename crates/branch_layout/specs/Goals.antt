-- Which number leads an instruction from a place to its goal.
use Rattle.std.specs.Prelude.{◌≡◌, ◌≤◌, ◌<◌, ℕ, ℤ, pos, ◌+◌, ◌-◌, ◌*◌, ◌/◌, ◌%◌, ◌^◌, nat_le, true, false, is_some, Option, Some, None, if◌then◌else◌, slice_get, ⊤, ◌-ℤ◌}
use Rattle.std.specs.Option.{option_and_then, option_map, option_map_or}
use Rattle.thumb_instr.specs.declared.instructions.Instr.{Instr}
use Rattle.thumb_instr.specs.declared.instructions.Instr.TheVariants as instr
use Rattle.seq_core.specs.declared.steps.Step.{Step}
use Rattle.seq_core.specs.declared.steps.Goal.{Goal}
use Rattle.seq_core.specs.declared.steps.Goal.TheVariants.{Nowhere, End, Landing, Target, Word}
use Rattle.seq_core.specs.declared.units.Unit.{Unit as SeqUnit}
use Rattle.hardened_form.specs.Places.{UnitPlace, Places}

-- what ADR and literal loads count from: the address plus 4, rounded down to a multiple of 4
abbrev pub base_of : ℕ → ℕ
base_of at = (at + 4) / 4 * 4

-- branches count from their address plus 4
abbrev pub offset_to : ℕ → ℕ → ℤ
offset_to at to = pos to -ℤ pos (at + 4)

-- The instruction with the number that leads from an offset to another. ADR makes an address with bit 0 set.
abbrev pub aimed : ℕ → ℕ → Instr → Instr
aimed at to (instr.Branch i) = instr.Branch (record i { offset = offset_to at to })
aimed at to (instr.ZeroBranch i) = instr.ZeroBranch (record i { offset = offset_to at to })
aimed at to (instr.Call i) = instr.Call (record i { offset = offset_to at to })
aimed at to (instr.Adr i) = instr.Adr (record i { up = true; imm = to + 1 - base_of at })
aimed at to (instr.Literal i) = if nat_le (base_of at) to then instr.Literal (record i { up = true; imm = to - base_of at }) else instr.Literal (record i { up = false; imm = base_of at - to })
aimed at to i = i

-- where the unit with an index begins
abbrev pub start_of : Places → ℕ → Option ℕ
start_of p k = option_map (λ (r : UnitPlace). r.start) (slice_get p.units k)

-- A branch with a relocation leads to itself, by the number -4: its target is reached by the relocation.
abbrev pub target_of : Places → SeqUnit → ℕ → Option ℕ
target_of p u at = if is_some u.reloc then Some at else option_and_then (start_of p) u.target

abbrev pub word_of : Places → SeqUnit → Option ℕ
word_of p u = option_and_then (λ k. slice_get p.words k) u.word

-- where a goal is, for a copy of a unit's step at an offset
abbrev pub goal_of : Places → SeqUnit → UnitPlace → ℕ → Goal → Option ℕ
goal_of p u q at Nowhere = None
goal_of p u q at End = Some q.end
goal_of p u q at Landing = Some q.back
goal_of p u q at Target = target_of p u at
goal_of p u q at Word = word_of p u

-- the instruction that stands there; what has no goal stands as it is
abbrev pub placed_instr : Places → SeqUnit → UnitPlace → ℕ → Step → Instr
placed_instr p u q at s = option_map_or (λ to. aimed at to s.instr) (goal_of p u q at s.goal) s.instr

-- how far a word is from what a load counts from
abbrev pub distance : ℕ → ℕ → ℕ
distance at word = if nat_le (base_of at) word then word - base_of at else base_of at - word

-- even offsets of a section that is not too big
pub record AreNear (at to : ℕ) : Type 0 where
  pub even : at % 2 ≡ 0
  pub even_goal : to % 2 ≡ 0
  pub low : at ≤ 524288
  pub low_goal : to ≤ 524288

-- Some code has the number that leads from an offset to another: of one halfword for CBZ and CBNZ, else of two.
abbrev pub Reaches : ℕ → ℕ → Instr → Type 0
Reaches at to (instr.Branch i) = AreNear at to
Reaches at to (instr.ZeroBranch i) = AreNear at to × (at + 4 ≤ to) × (to ≤ at + 130)
Reaches at to (instr.Call i) = AreNear at to
Reaches at to (instr.Adr i) = (base_of at ≤ to + 1) × (to + 1 < base_of at + 4096)
Reaches at to (instr.Literal i) = distance at to ≤ 4095
Reaches at to i = ⊤

abbrev pub StepReaches : Places → SeqUnit → UnitPlace → ℕ → Step → Type 0
StepReaches p u q at s = (to : ℕ) → goal_of p u q at s.goal ≡ Some to → (to < 2 ^ 31) × Reaches at to s.instr

-- The step has a goal, and reaches it.
pub record ReachesGoal (p : Places) (u : SeqUnit) (q : UnitPlace) (at : ℕ) (s : Step) : Type 0 where
  pub to : ℕ
  pub goal : goal_of p u q at s.goal ≡ Some to
  pub low : to < 2 ^ 31
  pub reaches : Reaches at to s.instr
