-- Decimals as texts.
use Rattle.std.specs.Prelude.{◌≡◌, ◌≢◌, ℕ, List, length, slice_index}

-- a text that begins neither with a plus nor with a zero before other digits
pub record IsPlain (text : List ℕ) : Type 0 where
  pub no_plus : slice_index text 0 ≢ 43
  pub no_zero : slice_index text 0 ≡ 48 → length text ≡ 1
