-- Lists, and sets of places, that gain what has a property, in no order.
use Rattle.std.specs.Prelude.{◌≡◌, ◌↔◌, ◌⊎◌, ℕ, Bool, true, List, Contains}
use Rattle.std.specs.BTreeSet.{BTreeSet, contains}
use Rattle.code_ranges.specs.Spans.{place_cmp}

abbrev pub Gains : {X : Type 0} → (X → Type 0) → List X → List X → Type 0
Gains {X} P old new = (x : X) → Contains new x ↔ (Contains old x ⊎ P x)

abbrev pub has_place : BTreeSet (ℕ × ℕ) → ℕ → ℕ → Bool
has_place places j x = contains place_cmp places (j, x)

abbrev pub PlacesGain : (ℕ → ℕ → Type 0) → BTreeSet (ℕ × ℕ) → BTreeSet (ℕ × ℕ) → Type 0
PlacesGain P old new = (j x : ℕ) → (has_place new j x ≡ true) ↔ ((has_place old j x ≡ true) ⊎ P j x)

-- what one of a list gives
pub record IsFrom {X Y : Type 0} (P : X → Y → Type 0) (xs : List X) (y : Y) : Type 0 where
  pub source : X
  pub there : Contains xs source
  pub gives : P source y
