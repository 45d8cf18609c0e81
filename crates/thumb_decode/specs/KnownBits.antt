-- The rows that may fit a pair of halfwords of which some bits are known, as pairs of a bit's number and its value.
-- This too is a device of proofs alone.
use Rattle.std.specs.Prelude.{◌≡◌, ℕ, ◌-◌, ◌/◌, ◌%◌, ◌^◌, ◌<◌, Bool, true, nat_le, ◌==◌, ◌&&◌, if◌then◌else◌, List, [], ◌∷◌}
use Rattle.thumb_instr.specs.declared.refusals.ItPlace.{ItPlace}
use Rattle.thumb_instr.specs.Patterns.{Bits, Fixed, Field, Row}
use Rattle.thumb_decode.specs.Groups.{full_group}

-- a number with the pattern, below bit top, may have v as its bit number k
abbrev pub may_have : List Bits → ℕ → ℕ → ℕ → Bool
may_have [] top k v = true
may_have (Fixed width x ∷ ps) top k v =
    if nat_le width top
    then (if nat_le (top - width) k then (x / 2 ^ (k - (top - width)) % 2 == v) else may_have ps (top - width) k v)
    else true
may_have (Field width ∷ ps) top k v =
    if nat_le width top
    then (if nat_le (top - width) k then true else may_have ps (top - width) k v)
    else true

abbrev pub may_have_all : List Bits → List (ℕ × ℕ) → Bool
may_have_all ps [] = true
may_have_all ps (b ∷ bs) = may_have ps 32 b.0 b.1 && may_have_all ps bs

abbrev pub with_bits : List (ℕ × ℕ) → List Row → List Row
with_bits bs [] = []
with_bits bs (r ∷ rows) = if may_have_all r.pattern bs then r ∷ with_bits bs rows else with_bits bs rows

-- a number of 32 bits has these
abbrev pub HasBits : ℕ → List (ℕ × ℕ) → Type 0
HasBits h [] = Unit {0}
HasBits h (b ∷ bs) = (b.0 < 32) × (h / 2 ^ b.0 % 2 ≡ b.1) × HasBits h bs

-- the rows that may fit a pair whose first w bits are k and which has these bits
unfoldable pub full_group_with : ℕ → ℕ → List (ℕ × ℕ) → ItPlace → List Row
full_group_with w k bs place = with_bits bs (full_group w k place)
