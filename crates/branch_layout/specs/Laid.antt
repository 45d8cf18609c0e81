-- The laws that a layout has the places of its placing, and that none of its units with bytes begins at a word.
use Rattle.std.specs.Prelude.{◌≡◌, ◌≢◌, ◌<◌, ℕ, ◌+◌, List, Some, length, map, slice_get, unwrap_or}
use Rattle.seq_core.specs.declared.units.Unit.{Unit as SeqUnit}
use Rattle.seq_core.specs.Places.{PlacedParts, LayoutParts}
use Rattle.flow_recover.specs.declared.flows.PoolWord.{PoolWord}
use Rattle.hardened_form.specs.Places.{UnitPlace, Places}
use Rattle.branch_layout.specs.Placings.{Stretch, Placing, places_of, IsPlacing}
use Rattle.branch_layout.specs.Layouts.{IsLayout}

-- A call comes back to the landing, or to the end where there is none.
abbrev pub laid_place : PlacedParts → UnitPlace
laid_place u = record { start = u.start; end = u.start + u.length; back = unwrap_or u.landing (u.start + u.length); island = u.island }

abbrev pub laid_places : LayoutParts → Places
laid_places l = record { units = map laid_place l.units; words = l.words }

pub record IsLaid (units : List SeqUnit) (words : List PoolWord) (l : LayoutParts) (is : IsLayout units words l) : Type 0 where
  pub places : laid_places l ≡ places_of is.placing
  pub count : length l.units ≡ length units
  pub pool : length l.words ≡ length words
  pub same : (k : ℕ) (u : SeqUnit) (x : PlacedParts) → slice_get units k ≡ Some u → slice_get l.units k ≡ Some x → x.unit ≡ u

abbrev pub LayoutsAreLaid : Type 0
LayoutsAreLaid = (units : List SeqUnit) (words : List PoolWord) (l : LayoutParts) (is : IsLayout units words l) → IsLaid units words l is

abbrev pub NoUnitAtWord : Type 0
NoUnitAtWord = (units : List SeqUnit) (words : List PoolWord) (p : Placing) → IsPlacing units words p →
    (k : ℕ) (u : SeqUnit) (s : Stretch) (n : ℕ) (w : PoolWord) (at : ℕ) → slice_get units k ≡ Some u → slice_get p.units k ≡ Some s → slice_get words n ≡ Some w → slice_get p.words n ≡ Some at →
    u.section ≡ w.section → s.place.start < s.place.end → s.place.start ≢ at
