-- The layout of units and words: their places in the long layout, and the codes of all copies.
use Rattle.std.specs.Prelude.{◌≡◌, ◌≤◌, ℕ, ◌+◌, nat_lt, List, Option, Some, None, if◌then◌else◌, length, slice_get}
use Rattle.std.specs.List.{AllZip, zip}
use Rattle.elf_model.specs.declared.refusals.Refusal.{Refusal}
use Rattle.thumb_instr.specs.declared.instructions.Instr.{Instr}
use Rattle.thumb_encode.specs.declared.codes.Code.{Code}
use Rattle.thumb_encode.specs.declared.codes.Width.{Width}
use Rattle.thumb_encode.specs.Encoding.{IsCodeOf, row_number}
use Rattle.seq_core.specs.declared.steps.Step.{Step}
use Rattle.seq_core.specs.declared.units.Unit.{Unit as SeqUnit}
use Rattle.seq_core.specs.Places.{PlacedParts, LayoutParts}
use Rattle.flow_recover.specs.declared.flows.PoolWord.{PoolWord}
use Rattle.hardened_form.specs.Places.{UnitPlace, Places}
use Rattle.branch_layout.specs.Copies.{copies_of, bytes_before}
use Rattle.branch_layout.specs.Widths.{AllLong}
use Rattle.branch_layout.specs.Placings.{Stretch, Placing, places_of, IsPlacing}
use Rattle.branch_layout.specs.Goals.{placed_instr}
use Rattle.branch_layout.specs.Faults.{LayFault}

-- the code of a width that `encode` gives: of the first row that has one
pub record IsFirstCode (i : Instr) (w : Width) (c : Code) : Type 0 where
  pub of : IsCodeOf i w c
  pub first : (other : Code) → IsCodeOf i w other → row_number c ≤ row_number other
  pub only : (other : Code) → IsCodeOf i w other → row_number other ≡ row_number c → other ≡ c

-- the codes of a unit: of each copy, with the number that leads from its own offset
pub record AreCodes (p : Places) (u : SeqUnit) (s : Stretch) (codes : List Code) : Type 0 where
  pub count : length codes ≡ length (copies_of u.seq.steps)
  pub each : (k : ℕ) (t : Step) (w : Width) (c : Code) → slice_get (copies_of u.seq.steps) k ≡ Some t → slice_get s.widths k ≡ Some w → slice_get codes k ≡ Some c
      → IsFirstCode (placed_instr p u s.place (s.place.start + bytes_before s.widths k) t) w c

abbrev pub landing_place : SeqUnit → UnitPlace → Option ℕ
landing_place u q = if nat_lt u.seq.landing (length u.seq.steps) then Some q.back else None

pub record IsPlacedUnit (p : Places) (e : SeqUnit × Stretch) (l : PlacedParts) : Type 0 where
  pub unit : l.unit ≡ e.0
  pub start : l.start ≡ e.1.place.start
  pub length : l.start + l.length ≡ e.1.place.end
  pub codes : AreCodes p e.0 e.1 l.codes
  pub landing : l.landing ≡ landing_place e.0 e.1.place
  pub island : l.island ≡ None

-- places in the long layout, with nothing in the way
pub record ArePlaces (units : List SeqUnit) (words : List PoolWord) (p : Placing) : Type 0 where
  pub placed : IsPlacing units words p
  pub long : AllLong units p.units
  pub no_fault : (r : Refusal) (section offset : ℕ) → ¬ LayFault units p r section offset

pub record IsLayout (units : List SeqUnit) (words : List PoolWord) (l : LayoutParts) : Type 0 where
  pub placing : Placing
  pub places : ArePlaces units words placing
  pub codes : AllZip (IsPlacedUnit (places_of placing)) (zip units placing.units) l.units
  pub new_words : l.words ≡ placing.words
  pub sizes : l.sizes ≡ placing.sizes
