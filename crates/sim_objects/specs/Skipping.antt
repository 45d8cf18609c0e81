-- At which addresses of the hardened image steps may be skipped: in the units of points for which the pairs allow it.
use Rattle.std.specs.Prelude.{◌≡◌, ◌<◌, ◌≤◌, ℕ, Bool, true, List, Some, slice_get}
use Rattle.thumb_table.specs.declared.placements.Placement.{Placement}
use Rattle.thumb_table.specs.Parts.{Image}
use Rattle.flow_recover.specs.declared.flows.Point.{Point as FlowPoint}
use Rattle.sim_charts.specs.Charts.{Point}
use Rattle.sim_relation.specs.Charted.{KeepsOut}
use Rattle.sim_objects.specs.Lists.{Pairing, HaveImages}
use Rattle.sim_objects.specs.Charts.{IsPointAt}

-- y is in a unit that may be skipped
pub record IsInSkipped (F c K : ℕ) (pairs : List (Pairing F c K)) (at : Placement) (y : ℕ) : Type 0 where
  pub address : ℕ
  pub point : Point
  pub is : IsPointAt F c K pairs at address point
  pub behind_start : point.place ≤ y
  pub before_end : y < point.end
  pub allowed : is.pairing.may_skip is.point ≡ true

-- Where steps are skipped in these units alone, each other unit keeps out of it.
abbrev pub UnitsKeepOut : Type 0
UnitsKeepOut =
    (F c K : ℕ) (pairs : List (Pairing F c K)) (at : Placement) (plain hard : Image) → HaveImages F c K pairs at plain hard
    → (may_skip : ℕ → Bool) → ((y : ℕ) → may_skip y ≡ true → IsInSkipped F c K pairs at y)
    → (a : ℕ) (p : Point) (is : IsPointAt F c K pairs at a p) → KeepsOut (is.pairing.may_skip is.point) may_skip p.place p.end

-- Where all units may be skipped, steps may be skipped everywhere.
abbrev pub AllMaySkip : Type 0
AllMaySkip =
    (F c K : ℕ) (pairs : List (Pairing F c K)) (at : Placement) → ((i : ℕ) (q : Pairing F c K) (x : FlowPoint) → slice_get pairs i ≡ Some q → q.may_skip x ≡ true)
    → (may_skip : ℕ → Bool) (a : ℕ) (p : Point) (is : IsPointAt F c K pairs at a p) → KeepsOut (is.pairing.may_skip is.point) may_skip p.place p.end
