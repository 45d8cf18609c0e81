-- What has to be given of a point of a flow and of its unit, so that the point's unit is met.
use Rattle.std.specs.Prelude.{◌≡◌, ◌≤◌, ◌||◌, ℕ, Bool, true, false, Some, slice_get}
use Rattle.elf_model.specs.Objects.{ObjectParts}
use Rattle.thumb_instr.specs.Numbers.{renumbered}
use Rattle.thumb_instr.specs.Sets.{reads_of}
use Rattle.thumb_table.specs.Parts.{CodeBytes}
use Rattle.flow_recover.specs.declared.flows.Point.{Point as FlowPoint}
use Rattle.flow_recover.specs.Flows.{FlowParts}
use Rattle.flow_recover.specs.WholeFlows.{IsFlow}
use Rattle.liveness.specs.declared.boundary.Boundary.{Boundary}
use Rattle.liveness.specs.Faults.{AreLive}
use Rattle.liveness.specs.Paths.{IsLiveAfter, NamesPoints}
use Rattle.liveness.specs.Sets.{LiveParts}
use Rattle.seq_core.specs.Does.{Works}
use Rattle.seq_core.specs.Meanings.{Ends, meant}
use Rattle.sim_charts.specs.Charts.{Chart, Point, sets_of, unit_of}
use Rattle.sim_charts.specs.Flows.{Stands}
use Rattle.sim_steps.specs.Met.{MetUnit}
use Rattle.sim_flows.specs.Continuing.{ArePlaced}
use Rattle.sim_flows.specs.Meeting.{IsLinkedAt}
use Rattle.sim_flows.specs.Points.{HasPoints, IsPointOf, KeepsResults}

-- It is that of the flow, its instruction stands in the plain image and is linked, its unit does in the hardened one what
-- the instruction means there, and what the unit loses is dead behind it.
pub record IsUnitOf (chart : Chart) (plain hard : CodeBytes) (c F : ℕ) (may_skip : ℕ → Bool) (f : FlowParts) (b : Boundary) (address : ℕ → ℕ) (j : ℕ) (x : FlowPoint) (p : Point) : Type 0 where
  pub number : ℕ
  pub ends : Ends
  pub point : IsPointOf f b address j x p
  pub stands : Stands plain (address j) p
  pub linked : IsLinkedAt chart plain address (address j) x p number ends
  pub works : Works hard c may_skip (unit_of p (meant (renumbered number p.instr) ends))
  pub short : p.length ≤ F
  pub dead : (k : ℕ) → p.loses k ≡ true → ¬ IsLiveAfter f b k x
  pub stack : p.loses 13 ≡ false
  pub link : (reads_of p.instr 14 || sets_of p.instr 14) ≡ true → p.loses 14 ≡ false

-- In a flow that liveness does not refuse, with four results, whose points and units are placed, it is met.
abbrev pub FlowsGiveUnits : Type 0
FlowsGiveUnits =
    (chart : Chart) (plain hard : CodeBytes) (c F : ℕ) (may_skip : ℕ → Bool) (o : ObjectParts) (f : FlowParts) (b : Boundary) (l : LiveParts) (start address : ℕ → ℕ) (flow : IsFlow o f) →
    NamesPoints f → AreLive f b l → KeepsResults b 4 → HasPoints chart f b address → ArePlaced o f flow chart plain start address →
    (j : ℕ) (x : FlowPoint) (p : Point) → slice_get f.points j ≡ Some x → chart (address j) ≡ Some p → IsUnitOf chart plain hard c F may_skip f b address j x p →
    MetUnit chart plain hard c 4 F may_skip (address j) p
