-- Where units go on in a chart of lists.
use Rattle.std.specs.Prelude.{◌≡◌, ℕ, ◌+◌, List, Some}
use Rattle.thumb_table.specs.declared.placements.Placement.{Placement}
use Rattle.sim_charts.specs.Charts.{Chart, Point, Call}
use Rattle.sim_objects.specs.Lists.{Pairing}
use Rattle.sim_objects.specs.Charts.{IsChartOf}

-- The next point stands behind this one, its unit begins where this one's ends, and there a hardened call returns.
pub record GoesOn (chart : Chart) (a : ℕ) (p : Point) (b : ℕ) : Type 0 where
  pub point : Point
  pub there : chart b ≡ Some point
  pub behind : b ≡ a + p.width
  pub place : point.place ≡ p.end
  pub back : p.way ≡ Call → p.back ≡ p.end

abbrev pub UnitsFollow : Type 0
UnitsFollow =
    (F c K : ℕ) (pairs : List (Pairing F c K)) (at : Placement) (chart : Chart) → IsChartOf F c K pairs at chart
    → (a b : ℕ) (p : Point) → chart a ≡ Some p → p.next ≡ Some b → GoesOn chart a p b
