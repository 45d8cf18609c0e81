-- The units and words of a layout as items, and the first of a section from an old offset on.
use Rattle.std.specs.Prelude.{◌≡◌, ◌<◌, ◌≤◌, ℕ, ◌==◌, nat_lt, ◌&&◌, ◌||◌, Bool, true, false, List, Option, Some, None, if◌then◌else◌, find, map, slice_get}
use Rattle.std.specs.Option.{option_map}
use Rattle.std.specs.List.{zip}
use Rattle.flow_recover.specs.Flows.{FlowParts}
use Rattle.seq_core.specs.Places.{LayoutParts}
use Rattle.hardened_form.specs.Items.{Item, AreItems, item_of_unit, item_of_word}
use Rattle.hardened_form.specs.Standing.{old_points, old_words, is_from}
use Rattle.branch_layout.specs.Laid.{laid_place as unit_place, laid_places as places_of}

-- all of them, in order
abbrev pub AreItemsOf : FlowParts → LayoutParts → List Item → Type 0
AreItemsOf f l items = AreItems (old_points f) (old_words f) (places_of l) items

abbrev pub unit_items : FlowParts → LayoutParts → List Item
unit_items f l = map item_of_unit (zip (old_points f) (map unit_place l.units))

abbrev pub word_items : FlowParts → LayoutParts → List Item
word_items f l = map item_of_word (zip (old_words f) l.words)

abbrev pub is_earlier : ℕ × ℕ → ℕ × ℕ → Bool
is_earlier p q = nat_lt p.0 q.0 || ((p.0 == q.0) && nat_lt p.1 q.1)

-- the places before an index are earlier than a place, and the others are not
pub record IsFirstFrom (places : List (ℕ × ℕ)) (p : ℕ × ℕ) (k : ℕ) : Type 0 where
  pub before : (i : ℕ) (q : ℕ × ℕ) → i < k → slice_get places i ≡ Some q → is_earlier q p ≡ true
  pub behind : (i : ℕ) (q : ℕ × ℕ) → k ≤ i → slice_get places i ≡ Some q → is_earlier q p ≡ false

-- where the first of some items stood, and where it stands now
abbrev pub old_and_new : Item → ℕ × ℕ
old_and_new it = (it.old, it.new)

abbrev pub first_of : List Item → ℕ → ℕ → Option (ℕ × ℕ)
first_of items j x = option_map old_and_new (find (is_from j x) items)

-- the new offset of the one that stood first
abbrev pub nearer_or : Option (ℕ × ℕ) → Option (ℕ × ℕ) → ℕ → ℕ
nearer_or None None size = size
nearer_or (Some a) None size = a.1
nearer_or None (Some b) size = b.1
nearer_or (Some a) (Some b) size = if nat_lt b.0 a.0 then b.1 else a.1
