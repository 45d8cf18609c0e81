-- What follows for two images that are linked unit by unit: their calls end alike.
use Rattle.std.specs.Prelude.{◌≡◌, ◌<◌, ℕ, zero, suc, ◌+◌, ◌*◌, Bool, true, false, List, Option, Some, None, Ok, Err, ⊤}
use Rattle.thumb_instr.specs.Blocks.{place_in_block}
use Rattle.thumb_instr.specs.Rows.{Answer, decode}
use Rattle.thumb_table.specs.declared.faults.FaultKind.TheVariants.{Trap}
use Rattle.thumb_table.specs.Parts.{CodeBytes}
use Rattle.thumb_table.specs.States.{State, Core}
use Rattle.thumb_table.specs.Steps.{Fetched, move, fetch, takes_effect}
use Rattle.thumb_table.specs.Schedules.{run, Returns, ReturnsWithin, Breaks, OrdinaryRun, IsLegal, is_in, exit}
use Rattle.seq_core.specs.Does.{Legal, Comes, never}
use Rattle.sim_charts.specs.Charts.{Chart, Point}
use Rattle.sim_charts.specs.Boundaries.{results}
use Rattle.sim_charts.specs.Alike.{Agree, SameStore, SameMember}
use Rattle.sim_charts.specs.Twins.{IsNarrowUse}
use Rattle.sim_charts.specs.Linked.{Linked}

-- The schedule: legal for c copies, and where a step is skipped the run allows it.
pub record Fits (hard : CodeBytes) (c : ℕ) (may_skip : ℕ → Bool) (skips : ℕ → Bool) (begun : State) : Type 0 where
  pub legal : Legal c skips
  pub inside : (i : ℕ) (u : State) → run hard skips i 0 begun ≡ Ok u → skips i ≡ true → may_skip u.pc ≡ true

-- the plain run is at a point, the hardened one at its place, and what is live agrees
pub record At (chart : Chart) (s t : State) : Type 0 where
  pub point : Point
  pub there : chart s.pc ≡ Some point
  pub it : s.core.it ≡ point.it
  pub placed : t.pc ≡ point.place
  pub agree : Agree chart point.live s.core t.core

-- r0 to r(K-1), r4 to r11, sp and memory are the same
pub record SameResults (chart : Chart) (K : ℕ) (s t : State) : Type 0 where
  pub regs : (r : ℕ) → results K r ≡ true → SameMember chart r s.core t.core
  pub store : SameStore chart s.core t.core

-- both have returned
pub record Over (chart : Chart) (K : ℕ) (s t : State) : Type 0 where
  pub plain : s.pc ≡ exit
  pub hard : t.pc ≡ exit
  pub same : SameResults chart K s t

-- The steps of a run keep to K results: with fewer than four, a function returns to a return address.
abbrev pub NarrowAnswer : ℕ → Answer → Core → Type 0
NarrowAnswer K (Err why) x = ⊤
NarrowAnswer K (Ok i) x = takes_effect x ≡ true → IsNarrowUse K i x

abbrev pub IsNarrow : ℕ → Option Fetched → State → Type 0
IsNarrow K None s = ⊤
IsNarrow K (Some f) s = NarrowAnswer K (decode (place_in_block s.core.it) f.first f.second) s.core

abbrev pub NarrowRun : ℕ → CodeBytes → ℕ → State → Type 0
NarrowRun K plain zero s = Unit {0}
NarrowRun K plain (suc n) s = IsNarrow K (fetch plain s.pc) s × ((next : State) → move plain false s ≡ Ok next → NarrowRun K plain n next)

-- A plain call that returns by ordinary steps ends alike in the hardened code, within F times the steps, whatever is
-- skipped: the results are the same.
abbrev pub EndsAlike : Type 0
EndsAlike =
    (chart : Chart) (plain hard : CodeBytes) (c K F : ℕ) (may_skip : ℕ → Bool) → Linked chart plain hard c K F may_skip →
    (begun hard_begun ended : State) → At chart begun hard_begun →
    (n : ℕ) → Returns plain never n 0 begun ended → OrdinaryRun plain never n 0 begun → NarrowRun K plain n begun →
    (skips : ℕ → Bool) → Fits hard c may_skip skips hard_begun →
    (hard_ended : State) × ReturnsWithin hard skips (F * n) 0 hard_begun hard_ended × SameResults chart K ended hard_ended

-- for two copies, four results, skips anywhere, and schedules that are lists of step numbers
abbrev pub PairsEndAlike : Type 0
PairsEndAlike =
    (chart : Chart) (plain hard : CodeBytes) (F : ℕ) → Linked chart plain hard 2 4 F (λ a. true) →
    (begun hard_begun ended : State) → At chart begun hard_begun →
    (n : ℕ) → Returns plain never n 0 begun ended → OrdinaryRun plain never n 0 begun →
    (schedule : List ℕ) → IsLegal 2 schedule →
    (hard_ended : State) × ReturnsWithin hard (is_in schedule) (F * n) 0 hard_begun hard_ended × SameResults chart 4 ended hard_ended

-- After each plain step the hardened run passes a moment with the same sp and memory.
abbrev pub EveryMoment : Type 0
EveryMoment =
    (chart : Chart) (plain hard : CodeBytes) (c K F : ℕ) (may_skip : ℕ → Bool) → Linked chart plain hard c K F may_skip →
    (begun hard_begun s : State) → At chart begun hard_begun →
    (m : ℕ) → run plain never m 0 begun ≡ Ok s → OrdinaryRun plain never m 0 begun → NarrowRun K plain m begun →
    (skips : ℕ → Bool) → Fits hard c may_skip skips hard_begun →
    (t : State) × Comes hard skips (F * m) 0 hard_begun t × SameStore chart s.core t.core

-- Where the plain run breaks at a trap behind m steps, so does the hardened one, within F times (m + 1) steps.
abbrev pub StopsAlike : Type 0
StopsAlike =
    (chart : Chart) (plain hard : CodeBytes) (c K F : ℕ) (may_skip : ℕ → Bool) → Linked chart plain hard c K F may_skip →
    (begun hard_begun s : State) → At chart begun hard_begun →
    (m : ℕ) → Breaks plain never m 0 begun s Trap → OrdinaryRun plain never m 0 begun → NarrowRun K plain m begun →
    (skips : ℕ → Bool) → Fits hard c may_skip skips hard_begun →
    (k : ℕ) × (t : State) × (k < F * (m + 1)) × Breaks hard skips k 0 hard_begun t Trap × SameStore chart s.core t.core
