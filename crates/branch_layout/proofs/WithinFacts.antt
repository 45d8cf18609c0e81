-- Units and words stand within their sections, at even offsets.
use Rattle.std.proofs.Common.{◌≡◌, ◌≤◌, ◌<◌, ℕ, zero, suc, ◌+◌, ◌%◌, List, [], ◌∷◌, length, map, take, Bool, true, false, refl, sym, ap, ◌∙◌, subst, arith, Some, inl, inr, eq-eqb}
use Rattle.std.specs.Prelude.{slice_get, Contains, ◌==◌}
use Rattle.std.specs.Option.{option_map}
use Rattle.std.specs.List.{AllZip, zip}
use Rattle.std.proofs.lemmas.Option.{none-some, same_Some, slice_get-map, slice_get_within}
use Rattle.std.proofs.lemmas.List.{length-map}
use Rattle.std.proofs.lemmas.List.Elements.{Contains-append_left, Contains-append_right, Contains-append_cases}
use Rattle.std.proofs.lemmas.List.Sums.{sum_by-cons}
use Rattle.elf_model.proofs.Elements.{contains_cases, contains_later, contains_map, map_contains, contains_filter, filter_contains, place_of, contains_at, contains_none, element_at}
use Rattle.thumb_encode.specs.declared.codes.Width.{Width}
use Rattle.thumb_encode.specs.declared.codes.Width.TheVariants.{Half, Full}
use Rattle.hardened_form.specs.Places.{UnitPlace}
use Rattle.hardened_form.specs.Items.{Item, item_of_unit, item_of_word, items_in, new_start, StandFrom}
use Rattle.seq_core.specs.declared.units.Unit.{Unit as SeqUnit}
use Rattle.flow_recover.specs.declared.flows.PoolWord.{PoolWord}
use Rattle.branch_layout.specs.Copies.{bytes_of, length_of, bytes_before}
use Rattle.branch_layout.specs.Placings.{Stretch, Placing, place_of as stretch_place, IsStretch, IsPlacing, unit_point, word_point}

-- LISTS BY INDEX

pub all_zip_at : {A B : Type 0} (R : A → B → Type 0) (xs : List A) (ys : List B) (k : ℕ) (x : A) (y : B) → AllZip R xs ys → slice_get xs k ≡ Some x → slice_get ys k ≡ Some y → R x y
all_zip_at R [] ys k x y all e f = absurd (none-some x e)
all_zip_at R (a ∷ xs) [] k x y all e f = absurd all
all_zip_at R (a ∷ xs) (b ∷ ys) zero x y all e f = subst (λ (z : _). R z y) (same_Some a x e) (subst (R a) (same_Some b y f) all.0)
all_zip_at R (a ∷ xs) (b ∷ ys) (suc k) x y all e f = all_zip_at R xs ys k x y all.1 e f

pub map_at : {A B : Type 0} (f : A → B) (xs : List A) (k : ℕ) (y : B) → slice_get (map f xs) k ≡ Some y → (x : A) × (slice_get xs k ≡ Some x) × (f x ≡ y)
map_at f xs k y e =
    let lt : k < length (map f xs) = slice_get_within (map f xs) k y e in
    let long : length (map f xs) ≡ length xs = length-map xs f in
    let x = element_at xs k (omega arith) in
    (x.0, x.1, same_Some (f x.0) y (sym (slice_get-map f xs k ∙ ap (option_map f) x.1) ∙ e))

pub zip_at : {A B : Type 0} (xs : List A) (ys : List B) (k : ℕ) (x : A) (y : B) → slice_get xs k ≡ Some x → slice_get ys k ≡ Some y → slice_get (zip xs ys) k ≡ Some (x, y)
zip_at [] ys k x y e f = absurd (none-some x e)
zip_at (a ∷ xs) [] k x y e f = absurd (none-some y f)
zip_at {A = A} {B = B} (a ∷ xs) (b ∷ ys) zero x y e f = ap (λ (z : A). Some (z, b)) (same_Some a x e) ∙ ap (λ (z : B). Some (x, z)) (same_Some b y f)
zip_at (a ∷ xs) (b ∷ ys) (suc k) x y e f = zip_at xs ys k x y e f

pub zip_parts : {A B : Type 0} (xs : List A) (ys : List B) (k : ℕ) (z : A × B) → slice_get (zip xs ys) k ≡ Some z → (slice_get xs k ≡ Some z.0) × (slice_get ys k ≡ Some z.1)
zip_parts [] ys k z e = absurd (none-some z e)
zip_parts (a ∷ xs) [] k z e = absurd (none-some z e)
zip_parts {A = A} {B = B} (a ∷ xs) (b ∷ ys) zero z e = let s : (a, b) ≡ z = same_Some (a, b) z e in (ap (λ (p : A × B). Some p.0) s, ap (λ (p : A × B). Some p.1) s)
zip_parts (a ∷ xs) (b ∷ ys) (suc k) z e = zip_parts xs ys k z e

-- BYTES

pub even_bytes : (ws : List Width) → length_of ws % 2 ≡ 0
even_bytes [] = refl
even_bytes (Half ∷ ws) = let rest = even_bytes ws in let e : length_of (Half ∷ ws) ≡ 2 + length_of ws = sum_by-cons bytes_of Half ws in omega arith
even_bytes (Full ∷ ws) = let rest = even_bytes ws in let e : length_of (Full ∷ ws) ≡ 4 + length_of ws = sum_by-cons bytes_of Full ws in omega arith

pub bytes_most : (ws : List Width) (k : ℕ) → bytes_before ws k ≤ length_of ws
bytes_most [] zero = omega arith
bytes_most [] (suc k) = omega arith
bytes_most (w ∷ ws) zero = omega arith
bytes_most (w ∷ ws) (suc k) =
    let rest : length_of (take k ws) ≤ length_of ws = bytes_most ws k in
    let e : length_of (w ∷ ws) ≡ bytes_of w + length_of ws = sum_by-cons bytes_of w ws in
    let f : length_of (w ∷ take k ws) ≡ bytes_of w + length_of (take k ws) = sum_by-cons bytes_of w (take k ws) in
    omega arith

-- IN A SECTION

-- an item has bytes, an even number of them
pub record IsEven (it : Item) : Type 0 where
  pub bytes : ℕ
  pub end : it.end ≡ it.new + bytes
  pub even : bytes % 2 ≡ 0

-- where it stands, behind an offset and before another
pub record IsBetween (x size : ℕ) (it : Item) : Type 0 where
  pub low : x ≤ it.new
  pub up : it.new ≤ it.end
  pub high : it.end ≤ size
  pub even : it.new % 2 ≡ 0
  pub even_end : it.end % 2 ≡ 0

pub starts : (word : Bool) (x : ℕ) → x % 2 ≡ 0 → (x ≤ new_start word x) × (new_start word x % 2 ≡ 0)
starts false x e = (omega arith, e)
starts true x e = (omega arith, omega arith)

pub stands_low : (x : ℕ) (items : List Item) (size : ℕ) → ((it : Item) → Contains items it → IsEven it) → StandFrom x items size → x % 2 ≡ 0 → x ≤ size
stands_low x [] size even s e = let f : x ≡ size = s in omega arith
stands_low x (a ∷ items) size even s e =
    let here = even a (contains_at (a ∷ items) 0 a refl) in
    let new : a.new ≡ new_start a.word x = s.0 in
    let start = starts a.word x e in
    let behind = here.end in
    let bytes = here.even in
    let one = start.0 in
    let two = start.1 in
    let even_new : a.new % 2 ≡ 0 = omega arith in
    let rest : a.end ≤ size = stands_low a.end items size (λ it h. even it (contains_later a items it h)) s.1 (omega arith) in
    omega arith

pub stands_between : (x : ℕ) (items : List Item) (size : ℕ) → ((it : Item) → Contains items it → IsEven it) → StandFrom x items size → x % 2 ≡ 0 → (it : Item) → Contains items it → IsBetween x size it
stands_between x [] size even s e it h = absurd (contains_none it h)
stands_between x (a ∷ items) size even s e it h =
    let here = even a (contains_at (a ∷ items) 0 a refl) in
    let later : ((i : Item) → Contains items i → IsEven i) = λ i g. even i (contains_later a items i g) in
    let new : a.new ≡ new_start a.word x = s.0 in
    let start = starts a.word x e in
    let behind = here.end in
    let bytes = here.even in
    let one = start.0 in
    let two = start.1 in
    let even_new : a.new % 2 ≡ 0 = omega arith in
    let even_end : a.end % 2 ≡ 0 = omega arith in
    let rest : a.end ≤ size = stands_low a.end items size later s.1 even_end in
    elim (contains_cases a items it h) [
      | inl same ↦ subst (IsBetween x size) same (record { low = omega arith; up = omega arith; high = rest; even = even_new; even_end = even_end })
      | inr g ↦
          let b = stands_between a.end items size later s.1 even_end it g in
          let low = b.low in
          record { low = omega arith; up = b.up; high = b.high; even = b.even; even_end = b.even_end }
    ]

-- IN A PLACING

-- a place is in a section of a size
pub record IsWithin (sizes : List ℕ) (section start end : ℕ) : Type 0 where
  pub size : ℕ
  pub there : slice_get sizes section ≡ Some size
  pub up : start ≤ end
  pub high : end ≤ size
  pub even : start % 2 ≡ 0
  pub even_end : end % 2 ≡ 0

module _ (units : List SeqUnit) (words : List PoolWord) (p : Placing) (placing : IsPlacing units words p) where
  pub item_is_even : (it : Item) → Contains placing.items it → IsEven it
  item_is_even it h = elim (Contains-append_cases (map item_of_unit (zip (map unit_point units) (map stretch_place p.units))) (map item_of_word (zip (map word_point words) p.words)) it ((placing.of.same it).0 h)) [
    | inl left ↦
        let from = contains_map item_of_unit (zip (map unit_point units) (map stretch_place p.units)) it left in
        let z : (ℕ × ℕ) × UnitPlace = from.0 in
        let at = place_of (zip (map unit_point units) (map stretch_place p.units)) z from.1 in
        let parts = zip_parts (map unit_point units) (map stretch_place p.units) at.0 z at.1 in
        let u = map_at unit_point units at.0 z.0 parts.0 in
        let s = map_at stretch_place p.units at.0 z.1 parts.1 in
        let is = all_zip_at IsStretch units p.units at.0 u.0 s.0 placing.stretches u.1 s.1 in
        let end : z.1.end ≡ z.1.start + length_of s.0.widths = ap (λ (q : UnitPlace). q.end) (sym s.2) ∙ is.end ∙ ap (λ (q : UnitPlace). q.start + length_of s.0.widths) s.2 in
        subst IsEven from.2 (record { bytes = length_of s.0.widths; end = end; even = even_bytes s.0.widths })
    | inr right ↦
        let from = contains_map item_of_word (zip (map word_point words) p.words) it right in
        subst IsEven from.2 (record { bytes = 4; end = refl; even = refl })
  ]

  item_within : (it : Item) → Contains placing.items it → IsWithin p.sizes it.section it.new it.end
  item_within it h =
      let size = element_at p.sizes it.section (placing.sections.within it h) in
      let among = filter_contains (λ (i : Item). i.section == it.section) placing.items it h (eq-eqb it.section it.section refl) in
      let even_in : ((i : Item) → Contains (items_in placing.items it.section) i → IsEven i) = λ i g. item_is_even i (contains_filter (λ (j : Item). j.section == it.section) placing.items i g).0 in
      let b = stands_between 0 (items_in placing.items it.section) size.0 even_in (placing.stand it.section size.0 size.1) refl it among in
      record { size = size.0; there = size.1; up = b.up; high = b.high; even = b.even; even_end = b.even_end }

  pub unit_within : (k : ℕ) (u : SeqUnit) (s : Stretch) → slice_get units k ≡ Some u → slice_get p.units k ≡ Some s → IsWithin p.sizes u.section s.place.start s.place.end
  unit_within k u s e f =
      let it : Item = item_of_unit (unit_point u, s.place) in
      let points = slice_get-map unit_point units k ∙ ap (option_map unit_point) e in
      let places = slice_get-map stretch_place p.units k ∙ ap (option_map stretch_place) f in
      let zipped = contains_at (zip (map unit_point units) (map stretch_place p.units)) k (unit_point u, s.place) (zip_at (map unit_point units) (map stretch_place p.units) k (unit_point u) s.place points places) in
      let among = Contains-append_left (map item_of_unit (zip (map unit_point units) (map stretch_place p.units))) (map item_of_word (zip (map word_point words) p.words)) it (map_contains item_of_unit (zip (map unit_point units) (map stretch_place p.units)) (unit_point u, s.place) zipped) in
      item_within it ((placing.of.same it).1 among)

  pub word_within : (k : ℕ) (w : PoolWord) (at : ℕ) → slice_get words k ≡ Some w → slice_get p.words k ≡ Some at → IsWithin p.sizes w.section at (at + 4)
  word_within k w at e f =
      let it : Item = item_of_word (word_point w, at) in
      let points = slice_get-map word_point words k ∙ ap (option_map word_point) e in
      let zipped = contains_at (zip (map word_point words) p.words) k (word_point w, at) (zip_at (map word_point words) p.words k (word_point w) at points f) in
      let among = Contains-append_right (map item_of_unit (zip (map unit_point units) (map stretch_place p.units))) (map item_of_word (zip (map word_point words) p.words)) it (map_contains item_of_word (zip (map word_point words) p.words) (word_point w, at) zipped) in
      item_within it ((placing.of.same it).1 among)
