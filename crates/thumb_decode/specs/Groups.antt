-- The rows that may fit a number whose first bits are known. This is a device of proofs: no meaning of halfwords
-- rests on it, and a row that it keeps for nothing does no harm.
use Rattle.std.specs.Prelude.{ℕ, ◌-◌, ◌/◌, ◌%◌, ◌^◌, Bool, true, nat_le, ◌==◌, ◌&&◌, if◌then◌else◌, List, [], ◌∷◌}
use Rattle.thumb_instr.specs.declared.refusals.ItPlace.{ItPlace}
use Rattle.thumb_instr.specs.Patterns.{Bits, Fixed, Field, Row}
use Rattle.thumb_instr.specs.HalfRows.{half_rows}
use Rattle.thumb_instr.specs.FullRows.{full_rows}

-- a number with the pattern, below bit top, may have k as its first w bits
abbrev pub may_fit : List Bits → ℕ → ℕ → ℕ → Bool
may_fit [] top w k = true
may_fit (Fixed width v ∷ ps) top w k =
    if nat_le width top
    then (if nat_le w width then (v / 2 ^ (width - w) == k) else ((k / 2 ^ (w - width) == v) && may_fit ps (top - width) (w - width) (k % 2 ^ (w - width))))
    else true
may_fit (Field width ∷ ps) top w k =
    if nat_le width top
    then (if nat_le w width then true else may_fit ps (top - width) (w - width) (k % 2 ^ (w - width)))
    else true

-- the rows that may fit
abbrev pub group : ℕ → ℕ → ℕ → List Row → List Row
group size w k [] = []
group size w k (r ∷ rows) = if may_fit r.pattern size w k then r ∷ group size w k rows else group size w k rows

-- the rows that may fit a halfword, or a pair, whose first w bits are k
unfoldable pub half_group : ℕ → ℕ → ItPlace → List Row
half_group w k place = group 16 w k (half_rows place)

unfoldable pub full_group : ℕ → ℕ → ItPlace → List Row
full_group w k place = group 32 w k (full_rows place)
