-- The points of a chart of lists are those of the objects' flows, and stand in the plain image.
use Rattle.std.specs.Prelude.{◌≡◌, ℕ, List, Some, slice_get}
use Rattle.thumb_table.specs.declared.placements.Placement.{Placement}
use Rattle.thumb_table.specs.Parts.{Image}
use Rattle.sim_charts.specs.Charts.{Chart, Point}
use Rattle.sim_charts.specs.Flows.{Stands}
use Rattle.sim_flows.specs.Points.{HasPoints}
use Rattle.sim_relation.specs.Accepted.{boundaries}
use Rattle.sim_objects.specs.Lists.{Pairing, plains, HaveImages}
use Rattle.sim_objects.specs.Charts.{IsChartOf, address_in}

-- of each flow
abbrev pub ChartsHavePoints : Type 0
ChartsHavePoints =
    (F c K : ℕ) (pairs : List (Pairing F c K)) (at : Placement) (chart : Chart) → IsChartOf F c K pairs at chart
    → (i : ℕ) (q : Pairing F c K) → slice_get pairs i ≡ Some q → HasPoints chart q.pair.flow (boundaries K) (address_in (plains pairs) at i q.pair.flow)

-- Each instruction stands at its address, as linked.
abbrev pub PointsStand : Type 0
PointsStand =
    (F c K : ℕ) (pairs : List (Pairing F c K)) (at : Placement) (plain hard : Image) (chart : Chart) → HaveImages F c K pairs at plain hard → IsChartOf F c K pairs at chart
    → (a : ℕ) (p : Point) → chart a ≡ Some p → Stands plain.code a p
