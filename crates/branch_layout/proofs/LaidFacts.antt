-- A layout has the places of its placing.
use Rattle.std.proofs.Common.{◌≡◌, ◌≤◌, ◌<◌, ℕ, ◌+◌, List, length, map, take, min, Bool, true, false, refl, sym, ap, ◌∙◌, arith, Option, Some, None}
use Rattle.std.specs.Prelude.{slice_get, nat_lt, if◌then◌else◌, unwrap_or}
use Rattle.std.specs.List.{AllZip, zip}
use Rattle.std.proofs.lemmas.Bool.{ltb-false}
use Rattle.std.proofs.lemmas.Option.{slice_get_within}
use Rattle.std.proofs.lemmas.List.{length-map, take_all}
use Rattle.std.proofs.lemmas.Slice.Zip.{AllZip-long, length-zip}
use Rattle.elf_model.proofs.Elements.{element_at}
use Rattle.code_ranges.proofs.InOrder.{same_at_each}
use Rattle.thumb_encode.specs.declared.codes.Width.{Width}
use Rattle.seq_core.specs.declared.steps.Step.{Step}
use Rattle.seq_core.specs.declared.units.Unit.{Unit as SeqUnit}
use Rattle.seq_core.specs.Places.{PlacedParts, LayoutParts}
use Rattle.flow_recover.specs.declared.flows.PoolWord.{PoolWord}
use Rattle.hardened_form.specs.Places.{UnitPlace, Places}
use Rattle.branch_layout.specs.Copies.{copies_of, length_of}
use Rattle.branch_layout.specs.Placings.{Stretch, Placing, place_of as stretch_place, places_of, landing_of, IsStretch, word_point}
use Rattle.branch_layout.specs.Layouts.{IsPlacedUnit, IsLayout}
use Rattle.branch_layout.specs.Laid.{laid_place, laid_places, IsLaid, LayoutsAreLaid}
use Rattle.branch_layout.proofs.WithinFacts.{all_zip_at, map_at, zip_at}

-- without a landing a call comes back to the end
back_at_end : (u : SeqUnit) (s : Stretch) → IsStretch u s → length u.seq.steps ≤ u.seq.landing → s.place.back ≡ s.place.end
back_at_end u s is le =
    let steps : take u.seq.landing u.seq.steps ≡ u.seq.steps = take_all u.seq.landing u.seq.steps le in
    let count : landing_of u ≡ length s.widths = ap (λ (l : List Step). length (copies_of l)) steps ∙ sym is.count in
    let few : length s.widths ≤ landing_of u = omega arith in
    let all : take (landing_of u) s.widths ≡ s.widths = take_all (landing_of u) s.widths few in
    is.back ∙ ap (λ (l : List Width). s.place.start + length_of l) all ∙ sym is.end

module _ (p : Places) (u : SeqUnit) (s : Stretch) (x : PlacedParts) (is : IsStretch u s) (laid : IsPlacedUnit p (u, s) x) where
  laid_back : unwrap_or x.landing (x.start + x.length) ≡ s.place.back
  laid_back = ap (λ (o : Option ℕ). unwrap_or o (x.start + x.length)) laid.landing ∙ go (nat_lt u.seq.landing (length u.seq.steps)) refl
    where
      go : (b : Bool) → nat_lt u.seq.landing (length u.seq.steps) ≡ b → unwrap_or (if b then Some s.place.back else None) (x.start + x.length) ≡ s.place.back
      go true e = refl
      go false e = laid.length ∙ sym (back_at_end u s is (ltb-false u.seq.landing (length u.seq.steps) e))

  place_laid : laid_place x ≡ s.place
  place_laid =
      ap (λ (n : ℕ). record (laid_place x) { start = n }) laid.start ∙ ap (λ (n : ℕ). record (laid_place x) { start = s.place.start; end = n }) laid.length
      ∙ ap (λ (n : ℕ). record (laid_place x) { start = s.place.start; end = s.place.end; back = n }) laid_back ∙ ap (λ (o : Option ℕ). record s.place { island = o }) (laid.island ∙ sym is.island)

module _ (units : List SeqUnit) (words : List PoolWord) (l : LayoutParts) (is : IsLayout units words l) where
  abbrev p : Placing
  p = is.placing

  many : length p.units ≡ length units
  many = AllZip-long IsStretch units p.units is.places.placed.stretches

  count : length l.units ≡ length units
  count =
      let long : length l.units ≡ length (zip units p.units) = AllZip-long (IsPlacedUnit (places_of p)) (zip units p.units) l.units is.codes in
      let zipped : length (zip units p.units) ≡ min (length units) (length p.units) = length-zip units p.units in
      let m = many in
      omega arith

  laid_at : (k : ℕ) (u : SeqUnit) (s : Stretch) (x : PlacedParts) → slice_get units k ≡ Some u → slice_get p.units k ≡ Some s → slice_get l.units k ≡ Some x → IsPlacedUnit (places_of p) (u, s) x
  laid_at k u s x e f g = all_zip_at (IsPlacedUnit (places_of p)) (zip units p.units) l.units k (u, s) x is.codes (zip_at units p.units k u s e f) g

  same_place : (k : ℕ) (a b : UnitPlace) → slice_get (map laid_place l.units) k ≡ Some a → slice_get (map stretch_place p.units) k ≡ Some b → a ≡ b
  same_place k a b e f =
      let x = map_at laid_place l.units k a e in
      let s = map_at stretch_place p.units k b f in
      let m = many in
      let lt : k < length p.units = slice_get_within p.units k s.0 s.1 in
      let u = element_at units k (omega arith) in
      let stretch = all_zip_at IsStretch units p.units k u.0 s.0 is.places.placed.stretches u.1 s.1 in
      sym x.2 ∙ place_laid (places_of p) u.0 s.0 x.0 stretch (laid_at k u.0 s.0 x.0 u.1 s.1 x.1) ∙ s.2

  same_places : map laid_place l.units ≡ map stretch_place p.units
  same_places =
      let c = count in
      let m = many in
      let a : length (map laid_place l.units) ≡ length l.units = length-map l.units laid_place in
      let b : length (map stretch_place p.units) ≡ length p.units = length-map p.units stretch_place in
      same_at_each (map laid_place l.units) (map stretch_place p.units) (omega arith) same_place

  same_unit : (k : ℕ) (u : SeqUnit) (x : PlacedParts) → slice_get units k ≡ Some u → slice_get l.units k ≡ Some x → x.unit ≡ u
  same_unit k u x e g =
      let m = many in
      let lt : k < length units = slice_get_within units k u e in
      let s = element_at p.units k (omega arith) in
      (laid_at k u s.0 x e s.1 g).unit

  is_laid : IsLaid units words l is
  is_laid = record {
    places = ap (λ (us : List UnitPlace). record (laid_places l) { units = us }) same_places ∙ ap (λ (ws : List ℕ). record (places_of p) { words = ws }) is.new_words;
    count = count;
    pool = ap length is.new_words ∙ is.places.placed.of.pool ∙ length-map words word_point;
    same = same_unit;
  }

pub layouts_laid : LayoutsAreLaid
layouts_laid units words l is = is_laid units words l is
