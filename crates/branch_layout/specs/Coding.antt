-- A device of proof: units at places where each of their copies has a code.
use Rattle.std.specs.Prelude.{◌≡◌, ◌≤◌, ℕ, ◌+◌, List, Some, length, slice_get}
use Rattle.thumb_encode.specs.declared.codes.Width.{Width}
use Rattle.thumb_encode.specs.declared.codes.Code.{Code}
use Rattle.thumb_encode.specs.Encoding.{IsCodeOf}
use Rattle.seq_core.specs.declared.steps.Step.{Step}
use Rattle.seq_core.specs.declared.units.Unit.{Unit as SeqUnit}
use Rattle.hardened_form.specs.Places.{Places}
use Rattle.branch_layout.specs.Copies.{copies_of, bytes_before}
use Rattle.branch_layout.specs.Placings.{Stretch, Placing, places_of}
use Rattle.branch_layout.specs.Goals.{placed_instr, StepReaches}

-- the offset of the copy with an index
abbrev pub offset_of : Stretch → ℕ → ℕ
offset_of s k = s.place.start + bytes_before s.widths k

-- a copy and its width
pub record IsCopy (u : SeqUnit) (s : Stretch) (k : ℕ) (t : Step) (w : Width) : Type 0 where
  pub step : slice_get (copies_of u.seq.steps) k ≡ Some t
  pub width : slice_get s.widths k ≡ Some w

pub record CanCode (p : Places) (u : SeqUnit) (s : Stretch) : Type 0 where
  pub low : s.place.end ≤ 524288
  pub reaches : (k : ℕ) (t : Step) (w : Width) → IsCopy u s k t w → StepReaches p u s.place (offset_of s k) t
  pub coded : (k : ℕ) (t : Step) (w : Width) → IsCopy u s k t w → (c : Code) × IsCodeOf (placed_instr p u s.place (offset_of s k) t) w c

-- where no sequence has more than eight steps
abbrev pub AllCanCode : List SeqUnit → Placing → Type 0
AllCanCode units p = (k : ℕ) (u : SeqUnit) (s : Stretch) → slice_get units k ≡ Some u → slice_get p.units k ≡ Some s → length u.seq.steps ≤ 8 → CanCode (places_of p) u s
