-- Points and units stand at even addresses.
use Rattle.std.specs.Prelude.{◌≡◌, ℕ, ◌%◌, List, Some}
use Rattle.thumb_table.specs.declared.placements.Placement.{Placement}
use Rattle.thumb_table.specs.Parts.{Image}
use Rattle.sim_charts.specs.Charts.{Chart, Point}
use Rattle.sim_objects.specs.Lists.{Pairing, HaveImages}
use Rattle.sim_objects.specs.Charts.{IsChartOf}

-- So does what a hardened call returns to.
abbrev pub PlacesAreEven : Type 0
PlacesAreEven =
    (F c K : ℕ) (pairs : List (Pairing F c K)) (at : Placement) (plain hard : Image) (chart : Chart) → HaveImages F c K pairs at plain hard → IsChartOf F c K pairs at chart
    → (a : ℕ) (p : Point) → chart a ≡ Some p → (a % 2 ≡ 0) × (p.place % 2 ≡ 0) × (p.back % 2 ≡ 0)
