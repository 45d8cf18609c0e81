-- Units whose offsets are small.
use Rattle.std.specs.Prelude.{◌≡◌, ◌<◌, ◌+◌, ◌*◌, ◌^◌, length}
use Rattle.seq_core.specs.Places.{PlacedParts}
use Rattle.branch_layout.specs.Copies.{copies_of}

-- there is a code for each copy, and all lie low
pub record IsSmall (u : PlacedParts) : Type 0 where
  pub count : length u.codes ≡ length (copies_of u.unit.seq.steps)
  pub low : u.start + 4 * length u.codes < 2 ^ 32
