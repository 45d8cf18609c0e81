-- What a sequence does of an instruction, the unit of a point does, in the words of charts.
use Rattle.std.specs.Prelude.{◌≡◌, ◌≤◌, ℕ, Bool, true, false, length, Ok, Err}
use Rattle.thumb_instr.specs.declared.instructions.Instr.{Instr}
use Rattle.thumb_instr.specs.declared.instructions.Instr.TheVariants.{Half}
use Rattle.thumb_instr.specs.Numbers.{renumbered}
use Rattle.thumb_table.specs.declared.faults.FaultKind.TheVariants.{Trap}
use Rattle.thumb_table.specs.Parts.{CodeBytes}
use Rattle.thumb_table.specs.States.{Core, Change, Outcome, applied}
use Rattle.seq_core.specs.Does.{Task, KeepsMember, Works}
use Rattle.seq_core.specs.Meanings.{Ends, meant}
use Rattle.seq_core.specs.Classes.{has_pc}
use Rattle.seq_core.specs.Denoted.{Spots}
use Rattle.seq_core.specs.Builders.{ends_of, work}
use Rattle.sim_charts.specs.Charts.{Point, is_taken, unit_of}

-- z is y but for some members
pub record Near (loses : ℕ → Bool) (y z : Core) : Type 0 where
  pub count : length z.regs ≡ length y.regs
  pub members : (k : ℕ) → loses k ≡ false → KeepsMember k y z
  pub memory : y.memory ≡ z.memory

-- What one effect makes of a core is near to what another one makes, and leads to the same place; and it traps where
-- that traps.
pub record StandsFor (loses : ℕ → Bool) (y : Core) (o p : Outcome) : Type 0 where
  pub acts : (h : Change) → p ≡ Ok h → (g : Change) × (o ≡ Ok g) × (g.exit ≡ h.exit) × Near loses (applied h y) (applied g y)
  pub halts : p ≡ Err Trap → o ≡ Err Trap

-- The work of t serves as that of u.
pub record Serves (t u : Task) : Type 0 where
  pub place : t.place ≡ u.place
  pub end : t.end ≡ u.end
  pub short : t.length ≤ u.length
  pub taken : (y : Core) → t.taken y ≡ u.taken y
  pub effect : (y : Core) → StandsFor u.loses y (t.effect y) (u.effect y)
  pub loses : (k : ℕ) → u.loses k ≡ false → t.loses k ≡ false

abbrev pub WorkServes : Type 0
WorkServes = (code : CodeBytes) (c : ℕ) (may_skip : ℕ → Bool) (t u : Task) → Serves t u → Works code c may_skip t → Works code c may_skip u

-- What a builder's sequence does of an instruction is the work of a point's unit, where it ends where the unit ends, under
-- the point's condition, with the numbers of the point's instruction; a return by a list loses lr.
abbrev pub BuiltUnitsWork : Type 0
BuiltUnitsWork =
    (code : CodeBytes) (c n steps : ℕ) (may_skip : ℕ → Bool) (p : Point) (i : Instr) (spots : Spots) (test : Core → Bool) (lost : ℕ → Bool) →
    spots.end ≡ p.end → steps ≤ p.length → ((y : Core) → test y ≡ is_taken p y) → ((k : ℕ) → p.loses k ≡ false → lost k ≡ false) → (has_pc i ≡ true → p.loses 14 ≡ true) →
    ((y : Core) → meant i (ends_of spots) y ≡ meant (renumbered n p.instr) (ends_of spots) y) →
    Works code c may_skip (work test spots p.place steps i lost) → Works code c may_skip (unit_of p (meant (renumbered n p.instr) (ends_of spots)))

-- MOVW and MOVT alone mean their numbers; of two numbers the last one counts.
abbrev pub is_half : Instr → Bool
is_half (Half i) = true
is_half i = false

abbrev pub NumbersMean : Type 0
NumbersMean = (i : Instr) (n : ℕ) (e : Ends) (y : Core) → is_half i ≡ false → meant (renumbered n i) e y ≡ meant i e y

abbrev pub LastNumberMeans : Type 0
LastNumberMeans = (i : Instr) (n m : ℕ) (e : Ends) (y : Core) → meant (renumbered n (renumbered m i)) e y ≡ meant (renumbered n i) e y
