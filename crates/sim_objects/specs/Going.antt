-- Control goes on in a chart of lists as it does in the plain image; so the two images of lists of pairs are linked.
use Rattle.std.specs.Prelude.{◌≡◌, ◌≤◌, ℕ, Bool, List, Some}
use Rattle.thumb_table.specs.declared.placements.Placement.{Placement}
use Rattle.thumb_table.specs.Parts.{Image}
use Rattle.sim_charts.specs.Charts.{Chart, Point}
use Rattle.sim_charts.specs.Flows.{Continues}
use Rattle.sim_charts.specs.Linked.{Linked}
use Rattle.sim_relation.specs.Charted.{KeepsOut}
use Rattle.sim_objects.specs.Lists.{Pairing, HaveImages}
use Rattle.sim_objects.specs.Charts.{IsPointAt, IsChartOf}

-- A point's next point is there, with the IT state that it leaves; jumps end their blocks, and come with a clear state; and a
-- call to whose end a return may go has a next point.
abbrev pub PointsGoOn : Type 0
PointsGoOn =
    (F c K : ℕ) (pairs : List (Pairing F c K)) (at : Placement) (plain hard : Image) (chart : Chart) → HaveImages F c K pairs at plain hard → IsChartOf F c K pairs at chart
    → (a : ℕ) (p : Point) → chart a ≡ Some p → Continues chart plain.code a p

-- Nothing else is asked of two lists of pairs, but that units which may not be skipped keep out of what may be.
abbrev pub PairsAreLinked : Type 0
PairsAreLinked =
    (F c K : ℕ) (pairs : List (Pairing F c K)) (at : Placement) (plain hard : Image) (chart : Chart) (may_skip : ℕ → Bool) → K ≤ 4 → HaveImages F c K pairs at plain hard
    → IsChartOf F c K pairs at chart → ((a : ℕ) (p : Point) (is : IsPointAt F c K pairs at a p) → KeepsOut (is.pairing.may_skip is.point) may_skip p.place p.end)
    → Linked chart plain.code hard.code c K F may_skip
