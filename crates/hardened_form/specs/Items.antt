-- The units and words of a section in the order of their old offsets, and how they stand one behind the other.
use Rattle.std.specs.Prelude.{◌≡◌, ◌↔◌, ℕ, ◌+◌, ◌==◌, Bool, true, false, List, [], ◌∷◌, ◌++◌, length, map, filter, Contains}
use Rattle.std.specs.List.{zip}
use Rattle.std.specs.List.Sorted.{IsStrictlySortedBy}
use Rattle.elf_model.specs.Canonical.{round_up}
use Rattle.code_ranges.specs.Spans.{place_cmp}
use Rattle.hardened_form.specs.Places.{UnitPlace, Places}

-- A unit or a word: of which section, its old offset, and where it stands now.
pub record Item : Type 0 where
  pub section : ℕ
  pub old : ℕ
  pub new : ℕ
  pub end : ℕ
  pub word : Bool

-- by the section and old offset of a point, and of a word
abbrev pub item_of_unit : (ℕ × ℕ) × UnitPlace → Item
item_of_unit e = record { section = e.0.0; old = e.0.1; new = e.1.start; end = e.1.end; word = false }

abbrev pub item_of_word : (ℕ × ℕ) × ℕ → Item
item_of_word e = record { section = e.0.0; old = e.0.1; new = e.1; end = e.1 + 4; word = true }

abbrev pub all_items : List (ℕ × ℕ) → List (ℕ × ℕ) → Places → List Item
all_items points words p = map item_of_unit (zip points p.units) ++ map item_of_word (zip words p.words)

abbrev pub old_place : Item → ℕ × ℕ
old_place it = (it.section, it.old)

-- all of them, in the order of sections and old offsets
pub record AreItems (points words : List (ℕ × ℕ)) (p : Places) (items : List Item) : Type 0 where
  pub units : length p.units ≡ length points
  pub pool : length p.words ≡ length words
  pub same : (it : Item) → Contains items it ↔ Contains (all_items points words p) it
  pub rise : IsStrictlySortedBy place_cmp (map old_place items)

abbrev pub items_in : List Item → ℕ → List Item
items_in items j = filter (λ (it : Item). it.section == j) items

-- One behind the other, from an offset to the section's end; a word stands at the next multiple of 4.
abbrev pub new_start : Bool → ℕ → ℕ
new_start false x = x
new_start true x = round_up x 4

abbrev pub StandFrom : ℕ → List Item → ℕ → Type 0
StandFrom x [] size = x ≡ size
StandFrom x (it ∷ rest) size = (it.new ≡ new_start it.word x) × StandFrom it.end rest size
