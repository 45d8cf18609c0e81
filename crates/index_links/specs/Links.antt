-- The edges of a graph, as contracts see them.
use Rattle.std.specs.Prelude.{◌≡◌, ◌<◌, ◌≤◌, ℕ, List, Option, Some, None, slice_get}

pub record Edge : Type 0 where
  pub source : ℕ
  pub target : ℕ

-- the edges in the order in which they were added, the number of points that they lie between, and how many more
-- there is room for
pub record EdgeParts : Type 0 where
  pub edges : List Edge
  pub points : ℕ
  pub spare : ℕ

-- the edge at e leaves, or enters, a point
abbrev pub Leaves : List Edge → ℕ → ℕ → Type 0
Leaves edges p e = (q : ℕ) × (slice_get edges e ≡ Some (record { source = p; target = q }))

abbrev pub Enters : List Edge → ℕ → ℕ → Type 0
Enters edges q e = (p : ℕ) × (slice_get edges e ≡ Some (record { source = p; target = q }))

-- the lowest index from `low` on that has a property, or that none has it
abbrev pub IsFirstFrom : (ℕ → Type 0) → ℕ → Option ℕ → Type 0
IsFirstFrom Has low None = (k : ℕ) → low ≤ k → ¬ Has k
IsFirstFrom Has low (Some e) = (low ≤ e) × Has e × ((k : ℕ) → low ≤ k → k < e → ¬ Has k)
