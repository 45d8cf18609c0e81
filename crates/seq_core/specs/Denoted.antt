-- What a list of steps makes of a core, how it stands in code with its goals reached, and that it then works.
use Rattle.std.specs.Prelude.{◌≡◌, ◌<◌, ◌≤◌, ℕ, zero, suc, ◌+◌, ◌-◌, Bool, true, false, List, [], ◌∷◌, Some, Ok, ℤ}
use Rattle.mark_word.specs.Words.{Word}
use Rattle.mark_word.specs.declared.marks.Mark.{Mark}
use Rattle.elf_model.specs.Fields.{word_at}
use Rattle.thumb_instr.specs.declared.instructions.Instr.{Instr}
use Rattle.thumb_instr.specs.declared.instructions.Instr.TheVariants as instr
use Rattle.thumb_instr.specs.declared.refusals.ItPlace.TheVariants.{Outside}
use Rattle.thumb_instr.specs.Rows.{decode}
use Rattle.thumb_table.specs.Parts.{CodeBytes}
use Rattle.thumb_table.specs.States.{Core, Site, upright}
use Rattle.thumb_table.specs.Steps.{Fetched, fetch}
use Rattle.thumb_table.specs.Values.{away, moved}
use Rattle.thumb_table.specs.Effects.{change, lies, marked, mark_at, literal_base, plain_write}
use Rattle.seq_core.specs.declared.steps.Step.{Step}
use Rattle.seq_core.specs.declared.steps.Goal.{Goal}
use Rattle.seq_core.specs.declared.steps.Goal.TheVariants as goal
use Rattle.seq_core.specs.Does.{Effect, Task, Tolerates, DoesOnce}
use Rattle.seq_core.specs.Meanings.{meant}
use Rattle.seq_core.specs.Sequences.{Carries, Settles, Moves, steps_of}
use Rattle.seq_core.specs.Groups.{done, no_ends, branch_to, zero_to, half_by}

-- Where goals are: the instruction's target, the sequence's end, and the place that a call comes back to; the word that
-- a literal loads; and the mark of MOVW and MOVT.
pub record Spots : Type 0 where
  pub target : ℕ
  pub end : ℕ
  pub back : ℕ
  pub word : Word
  pub mark : Mark

abbrev pub spot_of : Spots → Goal → ℕ
spot_of p goal.Nowhere = 0
spot_of p goal.End = p.end
spot_of p goal.Landing = p.back
spot_of p goal.Target = p.target
spot_of p goal.Word = 0

-- ADR of a place in code, with bit 0 set
abbrev pub address_to : ℕ → ℕ → Effect
address_to d place y = upright (plain_write d (place + 1))

-- what a step makes of a core
abbrev pub denoted : Spots → Goal → Instr → Effect
denoted p g (instr.Branch i) = branch_to i.cond (spot_of p g)
denoted p g (instr.ZeroBranch i) = zero_to i.nonzero i.n (spot_of p g)
denoted p g (instr.Adr i) = address_to i.d (spot_of p g)
denoted p g (instr.Half i) = half_by i.top i.d i.imm p.mark
denoted p g (instr.Literal i) = meant (instr.Literal i) (record no_ends { word = p.word })
denoted p g i = done i

abbrev pub groups_of : Spots → List Step → List Effect
groups_of p [] = []
groups_of p (s ∷ ss) = denoted p s.goal s.instr ∷ groups_of p ss

-- What stands at a site is the step's instruction, with a number of its own that leads to the goal. No step is a call
-- of its own, nor IT.
abbrev pub Reached : Site → Spots → Goal → Instr → Instr → Type 0
Reached s p g (instr.Branch i) j = (o : ℤ) × (j ≡ instr.Branch (record { cond = i.cond; offset = o })) × (away (s.address + 4) o ≡ spot_of p g)
Reached s p g (instr.ZeroBranch i) j = (o : ℤ) × (j ≡ instr.ZeroBranch (record { nonzero = i.nonzero; n = i.n; offset = o })) × (away (s.address + 4) o ≡ spot_of p g)
Reached s p g (instr.Adr i) j = (imm : ℕ) × (j ≡ instr.Adr (record { d = i.d; up = true; imm = imm })) × (moved true (literal_base s) imm ≡ spot_of p g + 1)
Reached s p g (instr.Half i) j = (j ≡ instr.Half i) × (mark_at s.code.marks s.address ≡ p.mark)
Reached s p g (instr.Literal i) j = (up : Bool) × (imm : ℕ) × (j ≡ instr.Literal (record { t = i.t; up = up; imm = imm })) ×
    (let a : ℕ = moved up (literal_base s) imm in (lies s.code a 4 ≡ true) × (marked (word_at s.code.bytes (a - s.code.base)) (mark_at s.code.marks a) ≡ p.word))
Reached s p g (instr.Call i) j = ⊥
Reached s p g (instr.CallReg i) j = ⊥
Reached s p g (instr.It i) j = ⊥
Reached s p g i j = j ≡ i

-- c copies of a step in a row, from a to b
abbrev pub StepCopies : CodeBytes → ℕ → Spots → Step → ℕ → ℕ → Type 0
StepCopies code zero p s a b = a ≡ b
StepCopies code (suc c) p s a b = (f : Fetched) × (j : Instr) × (fetch code a ≡ Some f) × (decode Outside f.first f.second ≡ Ok j) ×
    Reached (record { code = code; address = a; width = f.width }) p s.goal s.instr j × StepCopies code c p s (a + f.width) b

-- steps one behind the other, each c times
abbrev pub StepsStand : CodeBytes → ℕ → Spots → List Step → ℕ → ℕ → Type 0
StepsStand code c p [] a b = a ≡ b
StepsStand code c p (s ∷ ss) a b = (s.copies ≡ c) × (m : ℕ) × StepCopies code c p s a m × StepsStand code c p ss m b

-- What stands for a step does what the step denotes.
abbrev pub StepsDenote : Type 0
StepsDenote = (s : Site) (p : Spots) (g : Goal) (i j : Instr) → Reached s p g i j → (x : Core) → change j s x ≡ denoted p g i x

-- Steps whose groups carry a task's effect out do the task where they stand with their goals reached.
abbrev pub StepsWork : Type 0
StepsWork = (code : CodeBytes) (c : ℕ) (t : Task) (p : Spots) (steps : List Step) → StepsStand code c p steps t.place t.end → t.length ≡ steps_of c (groups_of p steps) →
    Carries Settles t.end t.taken t.effect t.loses (groups_of p steps) → Tolerates code c t

-- So do steps of one copy each where none may be skipped.
abbrev pub StepsWorkOnce : Type 0
StepsWorkOnce = (code : CodeBytes) (may_skip : ℕ → Bool) (t : Task) (p : Spots) (steps : List Step) → ((a : ℕ) → t.place ≤ a → a < t.end → may_skip a ≡ false) →
    StepsStand code 1 p steps t.place t.end → t.length ≡ steps_of 1 (groups_of p steps) → Carries Moves t.end t.taken t.effect t.loses (groups_of p steps) → DoesOnce code may_skip t
