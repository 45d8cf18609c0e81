-- Where words of code stand, and units with bytes begin, as places of a hardened object.
use Rattle.std.specs.Prelude.{◌≡◌, ◌↔◌, ℕ, nat_lt, true, List, [], ◌∷◌, ◌++◌, Option, Some, None, if◌then◌else◌, Contains}
use Rattle.std.specs.BTreeSet.{BTreeSet, contains}
use Rattle.code_ranges.specs.Spans.{place_cmp}
use Rattle.flow_recover.specs.declared.flows.PoolWord.{PoolWord}
use Rattle.seq_core.specs.Places.{PlacedParts}

abbrev pub pool_place : PoolWord × ℕ → ℕ × ℕ
pool_place e = (e.0.section, e.1)

-- the word that a unit has behind it
abbrev pub island_by : ℕ → Option ℕ → List (ℕ × ℕ)
island_by j None = []
island_by j (Some y) = (j, y) ∷ []

abbrev pub island_place : PlacedParts → List (ℕ × ℕ)
island_place u = island_by u.unit.section u.island

abbrev pub begin_place : PlacedParts → List (ℕ × ℕ)
begin_place u = if nat_lt 0 u.length then (u.unit.section, u.start) ∷ [] else []

-- all of each list, with a recursion on it
abbrev pub islands : List PlacedParts → List (ℕ × ℕ)
islands [] = []
islands (u ∷ rest) = island_place u ++ islands rest

abbrev pub begins : List PlacedParts → List (ℕ × ℕ)
begins [] = []
begins (u ∷ rest) = begin_place u ++ begins rest

-- a set of the places that are listed
abbrev pub IsSetOf : BTreeSet (ℕ × ℕ) → List (ℕ × ℕ) → Type 0
IsSetOf s list = (p : ℕ × ℕ) → (contains place_cmp s p ≡ true) ↔ Contains list p
