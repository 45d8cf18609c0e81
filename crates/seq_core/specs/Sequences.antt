-- Sequences of groups: how they stand in code, what they make of a core, and the law that they work.
use Rattle.std.specs.Prelude.{◌≡◌, ◌<◌, ◌≤◌, ◌⊎◌, ℕ, zero, suc, ◌+◌, Bool, true, false, List, [], ◌∷◌, Some, Ok, Err}
use Rattle.thumb_instr.specs.declared.instructions.Instr.{Instr}
use Rattle.thumb_instr.specs.declared.refusals.ItPlace.TheVariants.{Outside}
use Rattle.thumb_instr.specs.Rows.{decode}
use Rattle.thumb_table.specs.declared.faults.FaultKind.TheVariants.{Trap}
use Rattle.thumb_table.specs.Parts.{CodeBytes}
use Rattle.thumb_table.specs.States.{Core, Change, Exit, Falls, Jumps, applied}
use Rattle.thumb_table.specs.Effects.{change}
use Rattle.thumb_table.specs.Steps.{Fetched, fetch, goes_on}
use Rattle.thumb_table.specs.Schedules.{IsLegal, is_in}
use Rattle.seq_core.specs.Does.{Effect, Task, Legal, SameBut, Begins, Tolerates, DoesOnce}

-- A copy at an address: what stands there has the group's effect. Copies may differ in what depends on their place.
pub record IsCopy (code : CodeBytes) (e : Effect) (f : Fetched) (a : ℕ) : Type 0 where
  pub instr : Instr
  pub there : fetch code a ≡ Some f
  pub means : decode Outside f.first f.second ≡ Ok instr
  pub effect : (x : Core) → change instr (record { code = code; address = a; width = f.width }) x ≡ e x

-- c copies in a row, from p to q
abbrev pub Copies : CodeBytes → ℕ → Effect → ℕ → ℕ → Type 0
Copies code zero e p q = p ≡ q
Copies code (suc c) e p q = (f : Fetched) × IsCopy code e f p × Copies code c e (p + f.width) q

-- groups one behind the other, each c times
abbrev pub Stands : CodeBytes → ℕ → List Effect → ℕ → ℕ → Type 0
Stands code c [] p q = p ≡ q
Stands code c (e ∷ es) p q = (m : ℕ) × Copies code c e p m × Stands code c es m q

-- how many instructions they are
abbrev pub steps_of : ℕ → List Effect → ℕ
steps_of c [] = 0
steps_of c (e ∷ es) = c + steps_of c es

-- An effect makes y of x and falls through; done again it leaves y as it is.
pub record Settles (e : Effect) (x y : Core) : Type 0 where
  pub first : Change
  pub makes : e x ≡ Ok first
  pub falls : first.exit ≡ Falls
  pub comes : applied first x ≡ y
  pub second : Change
  pub again : e y ≡ Ok second
  pub falls_again : second.exit ≡ Falls
  pub stays : applied second y ≡ y
  pub clear : y.it ≡ 0

-- An effect jumps from x to t, and makes y of x.
pub record Leads (e : Effect) (x : Core) (t : ℕ) (y : Core) : Type 0 where
  pub made : Change
  pub makes : e x ≡ Ok made
  pub jumps : made.exit ≡ Jumps t
  pub comes : applied made x ≡ y

-- An effect makes y of x and falls through.
pub record Moves (e : Effect) (x y : Core) : Type 0 where
  pub made : Change
  pub makes : e x ≡ Ok made
  pub falls : made.exit ≡ Falls
  pub comes : applied made x ≡ y
  pub clear : y.it ≡ 0

-- A chain: each group makes the next core, up to the end or to a group that jumps.
abbrev pub Chain : (Effect → Core → Core → Type 0) → List Effect → Core → Exit → Core → Type 0
Chain Goes [] x exit y = (exit ≡ Falls) × (x ≡ y)
Chain Goes (e ∷ es) x exit y = ((m : Core) × Goes e x m × Chain Goes es m exit y) ⊎ ((t : ℕ) × Leads e x t y × (exit ≡ Jumps t))

-- groups that leave the core, up to one that traps
abbrev pub Trapped : (Effect → Core → Core → Type 0) → List Effect → Core → Type 0
Trapped Goes [] x = ⊥
Trapped Goes (e ∷ es) x = (e x ≡ Err Trap) ⊎ (Goes e x x × Trapped Goes es x)

-- where the groups lead to, and with which core
pub record Reaches (Goes : Effect → Core → Core → Type 0) (end : ℕ) (groups : List Effect) (y : Core) (exit : Exit) (z : Core) : Type 0 where
  pub out : Exit
  pub chain : Chain Goes groups y out z
  pub there : goes_on end out ≡ goes_on end exit

-- The groups of a sequence carry an effect out where a test of the core holds, and nothing where it fails. Neither
-- code nor schedules occur here. They carry it by `Settles` where each may be done again, else by `Moves`.
pub record Carries (Goes : Effect → Core → Core → Type 0) (end : ℕ) (taken : Core → Bool) (effect : Effect) (loses : ℕ → Bool) (groups : List Effect) : Type 0 where
  pub acts : (y : Core) (h : Change) → Begins y → taken y ≡ true → effect y ≡ Ok h → (z : Core) × Reaches Goes end groups y h.exit z × SameBut loses (applied h y) z
  pub rests : (y : Core) → Begins y → taken y ≡ false → Reaches Goes end groups y Falls y
  pub halts : (y : Core) → Begins y → taken y ≡ true → effect y ≡ Err Trap → Trapped Goes groups y

-- They stand in code, each c times, as a task has it, and carry its effect out.
pub record Stood (Goes : Effect → Core → Core → Type 0) (code : CodeBytes) (c : ℕ) (t : Task) (groups : List Effect) : Type 0 where
  pub stands : Stands code c groups t.place t.end
  pub length : t.length ≡ steps_of c groups
  pub carries : Carries Goes t.end t.taken t.effect t.loses groups

-- THE LAW OF SEQUENCES: groups that may be done again do their work under every schedule that is legal for as many copies.
abbrev pub SequencesWork : Type 0
SequencesWork = (code : CodeBytes) (c : ℕ) (t : Task) (groups : List Effect) → Stood Settles code c t groups → Tolerates code c t

-- Any groups do theirs by one copy of each, where none may be skipped.
abbrev pub SequencesWorkOnce : Type 0
SequencesWorkOnce = (code : CodeBytes) (may_skip : ℕ → Bool) (t : Task) (groups : List Effect) →
    ((a : ℕ) → t.place ≤ a → a < t.end → may_skip a ≡ false) → Stood Moves code 1 t groups → DoesOnce code may_skip t

-- Lists of steps that are legal are so as tests.
abbrev pub SchedulesAreLegal : Type 0
SchedulesAreLegal = (c : ℕ) (schedule : List ℕ) → IsLegal c schedule → Legal c (is_in schedule)
