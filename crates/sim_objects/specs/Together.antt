-- The units of a chart of lists are linked, where the chart goes as control does and linking meets it.
use Rattle.std.specs.Prelude.{◌≡◌, ℕ, ◌%◌, Bool, List, Some}
use Rattle.thumb_table.specs.declared.placements.Placement.{Placement}
use Rattle.thumb_table.specs.Parts.{Image}
use Rattle.sim_charts.specs.Charts.{Chart, Point}
use Rattle.sim_charts.specs.Flows.{Continues}
use Rattle.sim_steps.specs.Facts.{Meets}
use Rattle.sim_relation.specs.Standing.{Linking}
use Rattle.sim_relation.specs.Doing.{ends_at}
use Rattle.sim_relation.specs.Charted.{KeepsOut}
use Rattle.sim_objects.specs.Lists.{Pairing, HaveImages}
use Rattle.sim_objects.specs.Charts.{IsPointAt, IsChartOf}
use Rattle.sim_objects.specs.Working.{number_of}
use Rattle.sim_objects.specs.Linking.{hard_start, AreLinkedUnits}
use Rattle.sim_objects.specs.UnitLinks.{IsUnitLink}

-- Addresses and places are even, control goes on at each point as in the chart, and the point meets what is asked of an
-- ordinary step, whatever link its unit has.
pub record AreMet (F c K : ℕ) (pairs : List (Pairing F c K)) (at : Placement) (plain : Image) (chart : Chart) : Type 0 where
  pub even : (a : ℕ) (p : Point) → chart a ≡ Some p → (a % 2 ≡ 0) × (p.place % 2 ≡ 0) × (p.back % 2 ≡ 0)
  pub goes : (a : ℕ) (p : Point) → chart a ≡ Some p → Continues chart plain.code a p
  pub meets : (a : ℕ) (p : Point) → chart a ≡ Some p → (is : IsPointAt F c K pairs at a p) (link : Linking) → IsUnitLink F c K pairs at is.file is.pairing is.point link
      → Meets chart plain.code a p (number_of is.point.reloc link.number is.point.instr) (ends_at (hard_start is) link is.is.unit) p.instr

abbrev pub UnitsAreLinked : Type 0
UnitsAreLinked =
    (F c K : ℕ) (pairs : List (Pairing F c K)) (at : Placement) (plain hard : Image) (chart : Chart) (may_skip : ℕ → Bool) → HaveImages F c K pairs at plain hard → IsChartOf F c K pairs at chart
    → AreMet F c K pairs at plain chart → ((a : ℕ) (p : Point) (is : IsPointAt F c K pairs at a p) → KeepsOut (is.pairing.may_skip is.point) may_skip p.place p.end)
    → AreLinkedUnits F c K pairs at plain hard chart may_skip
