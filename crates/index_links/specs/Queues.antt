-- A queue of indexes, as contracts see it.
use Rattle.std.specs.Prelude.{◌≡◌, ◌≤◌, ℕ, ◌==◌, Bool, List, Option, Some, None, if◌then◌else◌, length, slice_get, count_by}

-- the indexes that wait, the oldest first, and the number that all lie below
pub record PendingParts : Type 0 where
  pub waiting : List ℕ
  pub size : ℕ

-- how often an index stands in a list
abbrev pub times : ℕ → List ℕ → ℕ
times i xs = count_by (λ j. j == i) xs

abbrev pub mark_of : Option Bool → ℕ
mark_of None = 0
mark_of (Some waits) = if waits then 1 else 0

-- an index waits once where it is marked, else never, and there is room for all
pub record IsQueue (waiting : List ℕ) (waits : List Bool) (capacity : ℕ) : Type 0 where
  pub marked : (i : ℕ) → times i waiting ≡ mark_of (slice_get waits i)
  pub counted : length waiting ≡ count_by (λ w. w) waits
  pub room : length waits ≤ capacity
