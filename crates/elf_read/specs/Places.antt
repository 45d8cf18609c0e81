-- Where a fault stands, and which one is answered: the one at the lowest place.
use Rattle.std.specs.Prelude.{◌≡◌, ◌<◌, ◌==◌, nat_lt, ◌&&◌, ◌||◌, ◌⊎◌, ℕ, Bool, List, [], ◌∷◌, Option, Some, None, if◌then◌else◌}
use Rattle.elf_read.specs.declared.places.Place.{Place}

-- The lower section comes first, then the lower offset.
abbrev pub IsBelow : ℕ → ℕ → Place → Type 0
IsBelow section offset p = (section < p.section) ⊎ ((section ≡ p.section) × (offset < p.offset))

-- the lowest place at which a relation holds: none where it holds nowhere
abbrev pub IsLowest : (ℕ → ℕ → Type 0) → Option Place → Type 0
IsLowest P None = (section offset : ℕ) → P section offset → ⊥
IsLowest P (Some p) = P p.section p.offset × ((section offset : ℕ) → P section offset → IsBelow section offset p → ⊥)

-- the lower one of two places
abbrev pub lower_of : Option Place → Option Place → Option Place
lower_of None q = q
lower_of (Some p) None = Some p
lower_of (Some p) (Some q) = if nat_lt q.section p.section || ((q.section == p.section) && nat_lt q.offset p.offset) then Some q else Some p

-- the first offset whose test holds
abbrev pub first_of : List (ℕ × Bool) → Option ℕ
first_of [] = None
first_of (t ∷ rest) = if t.1 then Some t.0 else first_of rest
