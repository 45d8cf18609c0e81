-- What is to be given of the points of a chart of lists, so that the two images are linked unit by unit.
use Rattle.std.specs.Prelude.{◌≡◌, ◌≤◌, ℕ, ◌%◌, Bool, List, Some}
use Rattle.thumb_table.specs.declared.placements.Placement.{Placement}
use Rattle.thumb_table.specs.Parts.{Image}
use Rattle.sim_charts.specs.Charts.{Chart, Point}
use Rattle.sim_charts.specs.Flows.{Continues}
use Rattle.sim_charts.specs.Linked.{Linked}
use Rattle.sim_steps.specs.Facts.{Meets}
use Rattle.sim_relation.specs.Standing.{Linking, Stands}
use Rattle.sim_relation.specs.Doing.{MayLink, ends_at}
use Rattle.sim_relation.specs.Charted.{KeepsOut}
use Rattle.sim_objects.specs.Lists.{Pairing, hards, HaveImages}
use Rattle.sim_objects.specs.Charts.{start_at, IsPointAt, IsChartOf}
use Rattle.sim_objects.specs.Working.{number_of}

-- where the hardened section of a point starts
abbrev pub hard_start : {F c K : ℕ} {pairs : List (Pairing F c K)} {at : Placement} {a : ℕ} {p : Point} → IsPointAt F c K pairs at a p → ℕ
hard_start {F} {c} {K} {pairs} {at} {a} {p} is = start_at (hards pairs) at is.file is.point.section

-- Control goes on at the point as in the chart, its unit stands in the hardened image with what linking puts there, and
-- with that the point meets what is asked of an ordinary step.
pub record IsLinkedUnit (F c K : ℕ) (pairs : List (Pairing F c K)) (at : Placement) (plain hard : Image) (chart : Chart) (may_skip : ℕ → Bool) (a : ℕ) (p : Point) (is : IsPointAt F c K pairs at a p) : Type 0 where
  pub link : Linking
  pub may : MayLink is.pairing.plain is.pairing.pair.flow is.pairing.pair.certificate.places (hard_start is) is.point link
  pub stands : Stands hard.code (hard_start is) link is.pairing.pair.certificate.places is.point is.is.unit is.is.sequence
  pub keeps : KeepsOut (is.pairing.may_skip is.point) may_skip p.place p.end
  pub goes : Continues chart plain.code a p
  pub meets : Meets chart plain.code a p (number_of is.point.reloc link.number is.point.instr) (ends_at (hard_start is) link is.is.unit) p.instr

pub record AreLinkedUnits (F c K : ℕ) (pairs : List (Pairing F c K)) (at : Placement) (plain hard : Image) (chart : Chart) (may_skip : ℕ → Bool) : Type 0 where
  pub even : (a : ℕ) (p : Point) → chart a ≡ Some p → (a % 2 ≡ 0) × (p.place % 2 ≡ 0) × (p.back % 2 ≡ 0)
  pub units : (a : ℕ) (p : Point) → chart a ≡ Some p → (is : IsPointAt F c K pairs at a p) → IsLinkedUnit F c K pairs at plain hard chart may_skip a p is

-- Then they are.
abbrev pub ListsAreLinked : Type 0
ListsAreLinked =
    (F c K : ℕ) (pairs : List (Pairing F c K)) (at : Placement) (plain hard : Image) (chart : Chart) (may_skip : ℕ → Bool) → K ≤ 4 → HaveImages F c K pairs at plain hard
    → IsChartOf F c K pairs at chart → AreLinkedUnits F c K pairs at plain hard chart may_skip → Linked chart plain.code hard.code c K F may_skip
