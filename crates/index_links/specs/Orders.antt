-- An order of units, as contracts see it.
use Rattle.std.specs.Prelude.{◌≡◌, ◌<◌, ℕ, zero, suc, List, [], ◌∷◌, ◌++◌, Option, Some, None, length, slice_get, slice_set}
use Rattle.index_links.specs.Queues.{times}

-- the units from the first to the last, each by its index, and how many more there is room for
pub record UnitParts : Type 0 where
  pub order : List ℕ
  pub spare : ℕ

abbrev pub joined : Option (Option ℕ) → Option ℕ
joined None = None
joined (Some o) = o

-- the units from one on, as far as a number of them
abbrev pub walk : List (Option ℕ) → Option ℕ → ℕ → List ℕ
walk afters unit zero = []
walk afters None (suc n) = []
walk afters (Some u) (suc n) = u ∷ walk afters (joined (slice_get afters u)) n

-- links both ways between some units, which stand behind `before` and in front of `after`
abbrev pub AreLinked : List (Option ℕ) → List (Option ℕ) → Option ℕ → Option ℕ → List ℕ → Option ℕ → Option ℕ → Type 0
AreLinked befores afters before first [] last after = (first ≡ after) × (last ≡ before)
AreLinked befores afters before first (u ∷ rest) last after = (first ≡ Some u) × (slice_get befores u ≡ Some before) × (next : Option ℕ) × (slice_get afters u ≡ Some next) × AreLinked befores afters (Some u) next rest last after

-- the order has each unit once, and is linked both ways
pub record IsOrder (befores afters : List (Option ℕ)) (first last : Option ℕ) (order : List ℕ) : Type 0 where
  pub paired : length befores ≡ length afters
  pub long : length order ≡ length afters
  pub once : (u : ℕ) → u < length afters → times u order ≡ 1
  pub linked : AreLinked befores afters None first order last None

-- what a link is written to, if it is that of a unit
abbrev pub written : List (Option ℕ) → Option ℕ → ℕ → List (Option ℕ)
written links None u = links
written links (Some at) u = slice_set links at (Some u)

abbrev pub end_with : Option ℕ → Option ℕ → ℕ → Option ℕ
end_with end None u = Some u
end_with end (Some at) u = end

-- the last of some units behind `before`, and the first of some in front of `after`
abbrev pub last_of : Option ℕ → List ℕ → Option ℕ
last_of before [] = before
last_of before (u ∷ rest) = last_of (Some u) rest

abbrev pub first_of : List ℕ → Option ℕ → Option ℕ
first_of [] after = after
first_of (u ∷ rest) after = Some u

-- neighbours in an order, or its ends
abbrev pub IsBetween : List ℕ → Option ℕ → Option ℕ → Type 0
IsBetween order before after = (front : List ℕ) × (back : List ℕ) × (order ≡ front ++ back) × (before ≡ last_of None front) × (after ≡ first_of back None)
