-- What the liveness of an object gives of the points of a chart.
use Rattle.std.specs.Prelude.{◌≡◌, ◌≤◌, ◌||◌, ℕ, true, false, Some, slice_get}
use Rattle.thumb_instr.specs.Sets.{reads_of}
use Rattle.flow_recover.specs.declared.flows.Point.{Point as FlowPoint}
use Rattle.flow_recover.specs.Flows.{FlowParts}
use Rattle.liveness.specs.declared.boundary.Boundary.{Boundary}
use Rattle.liveness.specs.Paths.{IsLiveAfter, NamesPoints}
use Rattle.liveness.specs.Sets.{LiveParts}
use Rattle.liveness.specs.Faults.{AreLive}
use Rattle.sim_charts.specs.Charts.{Chart, Point, sets_of}
use Rattle.sim_charts.specs.Flows.{Lives, Spares}
use Rattle.sim_flows.specs.Points.{HasPoints, IsPointOf, KeepsResults}

-- For functions with four results, what is live is closed as a chart asks, and at entries and behind calls no more is live
-- than is kept there.
abbrev pub FlowsGiveLives : Type 0
FlowsGiveLives =
    (chart : Chart) (f : FlowParts) (b : Boundary) (l : LiveParts) (address : ℕ → ℕ) → NamesPoints f → AreLive f b l → KeepsResults b 4 → HasPoints chart f b address →
    (j : ℕ) (x : FlowPoint) (p : Point) → slice_get f.points j ≡ Some x → IsPointOf f b address j x p → Lives chart 4 p

-- What is lost is spared, where it is dead after the point and no sp, and no lr that the instruction reads or sets.
abbrev pub DeadIsSpared : Type 0
DeadIsSpared =
    (chart : Chart) (f : FlowParts) (b : Boundary) (K : ℕ) (address : ℕ → ℕ) → NamesPoints f → K ≤ 4 → KeepsResults b K → HasPoints chart f b address →
    (j : ℕ) (x : FlowPoint) (p : Point) → slice_get f.points j ≡ Some x → IsPointOf f b address j x p →
    ((k : ℕ) → p.loses k ≡ true → ¬ IsLiveAfter f b k x) → p.loses 13 ≡ false → ((reads_of p.instr 14 || sets_of p.instr 14) ≡ true → p.loses 14 ≡ false) →
    Spares chart K p
