-- Where units and words stand, for given widths of all copies.
use Rattle.std.specs.Prelude.{◌≡◌, ◌<◌, ◌⊎◌, ℕ, ◌+◌, List, None, Some, length, map, take, slice_get, Contains}
use Rattle.std.specs.List.{AllZip}
use Rattle.thumb_encode.specs.declared.codes.Width.{Width}
use Rattle.seq_core.specs.declared.units.Unit.{Unit as SeqUnit}
use Rattle.flow_recover.specs.declared.flows.PoolWord.{PoolWord}
use Rattle.hardened_form.specs.Places.{UnitPlace, Places}
use Rattle.hardened_form.specs.Items.{Item, AreItems, items_in, StandFrom}
use Rattle.branch_layout.specs.Copies.{copies_of, length_of, bytes_before}

-- The code of a unit: the widths of its copies, and its place.
pub record Stretch : Type 0 where
  pub widths : List Width
  pub place : UnitPlace

-- One stretch for each unit, the offset of each word, and the size of each section.
pub record Placing : Type 0 where
  pub units : List Stretch
  pub words : List ℕ
  pub sizes : List ℕ

abbrev pub place_of : Stretch → UnitPlace
place_of s = s.place

abbrev pub places_of : Placing → Places
places_of p = record { units = map place_of p.units; words = p.words }

-- the index of the copy that a call comes back to, or the number of copies
abbrev pub landing_of : SeqUnit → ℕ
landing_of u = length (copies_of (take u.seq.landing u.seq.steps))

-- A unit ends behind all of its copies; a call comes back to its landing, or to its end where it has none.
pub record IsStretch (u : SeqUnit) (s : Stretch) : Type 0 where
  pub count : length s.widths ≡ length (copies_of u.seq.steps)
  pub end : s.place.end ≡ s.place.start + length_of s.widths
  pub back : s.place.back ≡ s.place.start + bytes_before s.widths (landing_of u)
  pub island : s.place.island ≡ None

abbrev pub unit_point : SeqUnit → ℕ × ℕ
unit_point u = (u.section, u.old)

abbrev pub word_point : PoolWord → ℕ × ℕ
word_point w = (w.section, w.offset)

-- sections up to the last one that something stands in
pub record AreSections (items : List Item) (n : ℕ) : Type 0 where
  pub within : (it : Item) → Contains items it → it.section < n
  pub last : (n ≡ 0) ⊎ ((it : Item) × Contains items it × (it.section + 1 ≡ n))

-- In each section units and words stand one behind the other, from 0 up to its size.
pub record IsPlacing (units : List SeqUnit) (words : List PoolWord) (p : Placing) : Type 0 where
  pub items : List Item
  pub of : AreItems (map unit_point units) (map word_point words) (places_of p) items
  pub stretches : AllZip IsStretch units p.units
  pub sections : AreSections items (length p.sizes)
  pub stand : (j size : ℕ) → slice_get p.sizes j ≡ Some size → StandFrom 0 (items_in items j) size
