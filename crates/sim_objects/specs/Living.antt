-- What is live at the points of a chart of lists, and what their units spare.
use Rattle.std.specs.Prelude.{◌≡◌, ℕ, List, Some}
use Rattle.thumb_table.specs.declared.placements.Placement.{Placement}
use Rattle.sim_charts.specs.Charts.{Chart, Point}
use Rattle.sim_charts.specs.Flows.{Lives, Spares}
use Rattle.sim_objects.specs.Lists.{Pairing}
use Rattle.sim_objects.specs.Charts.{IsChartOf}

abbrev pub PointsLive : Type 0
PointsLive = (F c K : ℕ) (pairs : List (Pairing F c K)) (at : Placement) (chart : Chart) → IsChartOf F c K pairs at chart → (a : ℕ) (p : Point) → chart a ≡ Some p → Lives chart K p

abbrev pub PointsSpare : Type 0
PointsSpare = (F c K : ℕ) (pairs : List (Pairing F c K)) (at : Placement) (chart : Chart) → IsChartOf F c K pairs at chart → (a : ℕ) (p : Point) → chart a ≡ Some p → Spares chart K p
