-- The units of a chart of lists stand in the hardened image, with what linking puts there.
use Rattle.std.specs.Prelude.{ℕ, List}
use Rattle.thumb_table.specs.declared.placements.Placement.{Placement}
use Rattle.thumb_table.specs.Parts.{Image}
use Rattle.sim_charts.specs.Charts.{Point}
use Rattle.sim_relation.specs.Standing.{Linking, Stands}
use Rattle.sim_objects.specs.Lists.{Pairing, HaveImages}
use Rattle.sim_objects.specs.Charts.{IsPointAt}
use Rattle.sim_objects.specs.Linking.{hard_start}
use Rattle.sim_objects.specs.UnitLinks.{IsUnitLink}

-- the unit of one point
pub record StandsLinked (F c K : ℕ) (pairs : List (Pairing F c K)) (at : Placement) (hard : Image) (a : ℕ) (p : Point) (is : IsPointAt F c K pairs at a p) : Type 0 where
  pub link : Linking
  pub puts : IsUnitLink F c K pairs at is.file is.pairing is.point link
  pub stands : Stands hard.code (hard_start is) link is.pairing.pair.certificate.places is.point is.is.unit is.is.sequence

abbrev pub UnitsStand : Type 0
UnitsStand =
    (F c K : ℕ) (pairs : List (Pairing F c K)) (at : Placement) (plain hard : Image) → HaveImages F c K pairs at plain hard
    → (a : ℕ) (p : Point) (is : IsPointAt F c K pairs at a p) → StandsLinked F c K pairs at hard a p is
