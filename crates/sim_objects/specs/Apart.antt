-- Where the points and units of a chart of lists lie.
use Rattle.std.specs.Prelude.{◌≡◌, ◌<◌, ◌≤◌, ◌⊎◌, ℕ, ◌+◌, List, Some}
use Rattle.thumb_table.specs.declared.placements.Placement.{Placement}
use Rattle.thumb_table.specs.Parts.{Image}
use Rattle.sim_charts.specs.Charts.{Chart, Point}
use Rattle.sim_objects.specs.Lists.{Pairing, HaveImages}
use Rattle.sim_objects.specs.Charts.{IsChartOf}

-- No two points end at one address, so neither do two calls.
abbrev pub PointsEndApart : Type 0
PointsEndApart =
    (F c K : ℕ) (pairs : List (Pairing F c K)) (at : Placement) (plain hard : Image) (chart : Chart) → HaveImages F c K pairs at plain hard → IsChartOf F c K pairs at chart
    → (a b : ℕ) (p r : Point) → chart a ≡ Some p → chart b ≡ Some r → a + p.width ≡ b + r.width → a ≡ b

-- Points, units and where calls return to lie below the end of images.
pub record LiesLow (a : ℕ) (p : Point) : Type 0 where
  pub point : a + p.width ≤ 0x7FFFF000
  pub place : p.place < 0x7FFFF000
  pub back : p.back ≤ 0x7FFFF000
  pub width : (p.width ≡ 2) ⊎ (p.width ≡ 4)

abbrev pub PointsLieLow : Type 0
PointsLieLow =
    (F c K : ℕ) (pairs : List (Pairing F c K)) (at : Placement) (plain hard : Image) (chart : Chart) → HaveImages F c K pairs at plain hard → IsChartOf F c K pairs at chart
    → (a : ℕ) (p : Point) → chart a ≡ Some p → LiesLow a p
