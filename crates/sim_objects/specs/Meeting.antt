-- The points of a chart of lists meet what is asked of an ordinary step, with what linking puts at their units.
use Rattle.std.specs.Prelude.{◌≡◌, ℕ, List, Some}
use Rattle.thumb_table.specs.declared.placements.Placement.{Placement}
use Rattle.thumb_table.specs.Parts.{Image}
use Rattle.sim_charts.specs.Charts.{Chart, Point}
use Rattle.sim_steps.specs.Facts.{Meets}
use Rattle.sim_relation.specs.Standing.{Linking}
use Rattle.sim_relation.specs.Doing.{ends_at}
use Rattle.sim_objects.specs.Lists.{Pairing, HaveImages}
use Rattle.sim_objects.specs.Charts.{IsPointAt, IsChartOf}
use Rattle.sim_objects.specs.Working.{number_of}
use Rattle.sim_objects.specs.Linking.{hard_start}
use Rattle.sim_objects.specs.UnitLinks.{IsUnitLink}

-- Branches and calls lead to points of the chart in both images, those that leave to entries; a hardened call returns where
-- the chart says; and the numbers of MOVW and MOVT and the words of literal loads are the same, or stand for each other.
abbrev pub UnitsMeet : Type 0
UnitsMeet =
    (F c K : ℕ) (pairs : List (Pairing F c K)) (at : Placement) (plain hard : Image) (chart : Chart) → HaveImages F c K pairs at plain hard → IsChartOf F c K pairs at chart
    → (a : ℕ) (p : Point) → chart a ≡ Some p → (is : IsPointAt F c K pairs at a p) (link : Linking) → IsUnitLink F c K pairs at is.file is.pairing is.point link
    → Meets chart plain.code a p (number_of is.point.reloc link.number is.point.instr) (ends_at (hard_start is) link is.is.unit) p.instr
