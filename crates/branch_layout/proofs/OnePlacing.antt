-- A placing is the only one for its widths.
use Rattle.std.proofs.Common.{◌≡◌, ◌↔◌, ◌≤◌, ◌<◌, ℕ, suc, ◌+◌, List, [], ◌∷◌, length, map, Bool, true, false, cond, refl, sym, ap, ◌∙◌, subst, arith, inl, inr, Option, Some, eq-eqb}
use Rattle.std.specs.Prelude.{slice_get, Contains, ◌==◌}
use Rattle.std.specs.Option.{option_map}
use Rattle.std.specs.List.{AllZip, zip}
use Rattle.std.specs.List.Sorted.{IsStrictlySortedBy}
use Rattle.std.specs.declared.cmp.Ordering.TheVariants.{Less}
use Rattle.std.proofs.lemmas.Option.{same_Some, slice_get-map, slice_get_within}
use Rattle.std.proofs.lemmas.List.{length-map}
use Rattle.std.proofs.lemmas.List.Elements.{Contains-append_left, Contains-append_right, Contains-append_cases}
use Rattle.std.proofs.lemmas.Slice.Zip.{AllZip-long}
use Rattle.elf_model.proofs.Elements.{contains_map, map_contains, contains_filter, filter_contains, place_of, contains_at, element_at}
use Rattle.code_ranges.specs.Spans.{place_cmp}
use Rattle.code_ranges.proofs.PlaceOrder.{place_total}
use Rattle.code_ranges.proofs.InOrder.{Rises, one_list, one_index, same_at_each, never_less, never_itself, rises_keys}
use Rattle.thumb_encode.specs.declared.codes.Width.{Width}
use Rattle.hardened_form.specs.Places.{UnitPlace}
use Rattle.hardened_form.specs.Items.{Item, item_of_unit, item_of_word, old_place, items_in, new_start, StandFrom}
use Rattle.seq_core.specs.declared.units.Unit.{Unit as SeqUnit}
use Rattle.flow_recover.specs.declared.flows.PoolWord.{PoolWord}
use Rattle.branch_layout.specs.Copies.{length_of, bytes_before}
use Rattle.branch_layout.specs.Placings.{Stretch, Placing, place_of as stretch_place, landing_of, IsStretch, IsPlacing, unit_point, word_point}
use Rattle.branch_layout.specs.Given.{CanLay}
use Rattle.branch_layout.specs.Once.{widths_of, PlacingsAreOne}
use Rattle.branch_layout.proofs.WithinFacts.{all_zip_at, map_at, zip_at, zip_parts}

-- LISTS THAT RISE BY PLACES

module _ {X : Type 0} (point : X → ℕ × ℕ) where
  rises : (xs : List X) → IsStrictlySortedBy place_cmp (map point xs) → Rises (λ (a b : X). place_cmp (point a) (point b) ≡ Less) xs
  rises xs s = rises_keys point place_cmp xs s

  index_once : (xs : List X) (i k : ℕ) (x y : X) → IsStrictlySortedBy place_cmp (map point xs) → slice_get xs i ≡ Some x → slice_get xs k ≡ Some y → point x ≡ point y → i ≡ k
  index_once xs i k x y s e f same =
      one_index (λ (a b : X). place_cmp (point a) (point b) ≡ Less) (λ a b. never_less place_cmp place_total (point a) (point b)) xs i k x y (rises xs s) e f
      (never_itself place_cmp place_total (point x) (point y) same) (never_itself place_cmp place_total (point y) (point x) (sym same))

  once : (xs : List X) (x y : X) → IsStrictlySortedBy place_cmp (map point xs) → Contains xs x → Contains xs y → point x ≡ point y → x ≡ y
  once xs x y s h k same =
      let a = place_of xs x h in
      let b = place_of xs y k in
      let i = index_once xs a.0 b.0 x y s a.1 b.1 same in
      same_Some x y (sym a.1 ∙ ap (slice_get xs) i ∙ b.1)

map_itself : {X : Type 0} (xs : List X) → map (λ (x : X). x) xs ≡ xs
map_itself [] = refl
map_itself {X} (x ∷ xs) = ap (λ (l : List X). x ∷ l) (map_itself xs)

places_once : (xs ys : List (ℕ × ℕ)) → IsStrictlySortedBy place_cmp xs → IsStrictlySortedBy place_cmp ys → ((z : ℕ × ℕ) → Contains xs z ↔ Contains ys z) → xs ≡ ys
places_once xs ys s t same =
    one_list (λ (a b : ℕ × ℕ). place_cmp a b ≡ Less) (λ a b. never_less place_cmp place_total a b) xs ys (rises (λ x. x) xs (subst (IsStrictlySortedBy place_cmp) (sym (map_itself xs)) s))
    (rises (λ x. x) ys (subst (IsStrictlySortedBy place_cmp) (sym (map_itself ys)) t)) same

all_zip_from : {A B : Type 0} (R : A → B → Type 0) (xs : List A) (ys : List B) → length xs ≡ length ys → ((k : ℕ) (x : A) (y : B) → slice_get xs k ≡ Some x → slice_get ys k ≡ Some y → R x y) → AllZip R xs ys
all_zip_from R [] [] long each = tt
all_zip_from R [] (y ∷ ys) long each = absurd (omega arith)
all_zip_from R (x ∷ xs) [] long each = absurd (omega arith)
all_zip_from R (x ∷ xs) (y ∷ ys) long each = (each 0 x y refl refl, all_zip_from R xs ys (omega arith) (λ k a b e f. each (suc k) a b e f))

-- TWO ITEMS OF ONE OLD PLACE

record Twins (a b : Item) : Type 0 where
  section : a.section ≡ b.section
  old : a.old ≡ b.old
  word : a.word ≡ b.word
  bytes : ℕ
  end : a.end ≡ a.new + bytes
  other : b.end ≡ b.new + bytes

same_item : (a b : Item) → Twins a b → a.new ≡ b.new → a ≡ b
same_item a b twins new =
    let e : a.end ≡ a.new + twins.bytes = twins.end in
    let f : b.end ≡ b.new + twins.bytes = twins.other in
    let end : a.end ≡ b.end = omega arith in
    ap (λ (n : ℕ). record a { section = n }) twins.section ∙ ap (λ (n : ℕ). record a { section = b.section; old = n }) twins.old ∙ ap (λ (n : ℕ). record a { section = b.section; old = b.old; new = n }) new
    ∙ ap (λ (n : ℕ). record a { section = b.section; old = b.old; new = b.new; end = n }) end ∙ ap (λ (w : Bool). record b { word = w }) twins.word

Alike : Item → Item → List Item → List Item → ℕ → ℕ → Bool → Bool → Type 0
Alike a b xs ys m n s t = (cond s (a ∷ xs) xs ≡ cond t (b ∷ ys) ys) × (m ≡ n)

step_once : (a b : Item) → Twins a b → (xs ys : List Item) (x m n : ℕ) (s t : Bool) → s ≡ t → ((y : ℕ) → StandFrom y xs m → StandFrom y ys n → (xs ≡ ys) × (m ≡ n)) → StandFrom x (cond s (a ∷ xs) xs) m → StandFrom x (cond t (b ∷ ys) ys) n
    → (cond s (a ∷ xs) xs ≡ cond t (b ∷ ys) ys) × (m ≡ n)
step_once a b twins xs ys x m n true true e rest one two =
    let new : a.new ≡ b.new = one.0 ∙ ap (λ (w : Bool). new_start w x) twins.word ∙ sym two.0 in
    let same : a ≡ b = same_item a b twins new in
    let end : b.end ≡ a.end = ap (λ (i : Item). i.end) (sym same) in
    let more = rest a.end one.1 (subst (λ (y : ℕ). StandFrom y ys n) end two.1) in
    (ap (λ (i : Item). i ∷ xs) same ∙ ap (λ (l : List Item). b ∷ l) more.0, more.1)
step_once a b twins xs ys x m n false false e rest one two = rest x one two
step_once a b twins xs ys x m n true false e rest one two = absurd (cc)
step_once a b twins xs ys x m n false true e rest one two = absurd (cc)

stand_once : (xs ys : List Item) → AllZip Twins xs ys → (j x m n : ℕ) → StandFrom x (items_in xs j) m → StandFrom x (items_in ys j) n → (items_in xs j ≡ items_in ys j) × (m ≡ n)
stand_once [] [] all j x m n one two = (refl, sym one ∙ two)
stand_once [] (b ∷ ys) all j x m n one two = absurd all
stand_once (a ∷ xs) [] all j x m n one two = absurd all
stand_once (a ∷ xs) (b ∷ ys) all j x m n one two =
    step_once a b all.0 (items_in xs j) (items_in ys j) x m n (a.section == j) (b.section == j) (ap (λ (k : ℕ). k == j) all.0.section) (λ y s t. stand_once xs ys all.1 j y m n s t) one two

-- WHERE ITEMS COME FROM

data Origin (units : List SeqUnit) (words : List PoolWord) (p : Placing) (it : Item) : Type 0 where
  of_unit : (k : ℕ) (u : SeqUnit) (s : Stretch) → slice_get units k ≡ Some u → slice_get p.units k ≡ Some s → item_of_unit (unit_point u, s.place) ≡ it → Origin units words p it
  of_word : (k : ℕ) (w : PoolWord) (at : ℕ) → slice_get words k ≡ Some w → slice_get p.words k ≡ Some at → item_of_word (word_point w, at) ≡ it → Origin units words p it

module _ (units : List SeqUnit) (words : List PoolWord) (p : Placing) (placing : IsPlacing units words p) where
  origin : (it : Item) → Contains placing.items it → Origin units words p it
  origin it h = elim (Contains-append_cases (map item_of_unit (zip (map unit_point units) (map stretch_place p.units))) (map item_of_word (zip (map word_point words) p.words)) it ((placing.of.same it).0 h)) [
    | inl left ↦
        let from = contains_map item_of_unit (zip (map unit_point units) (map stretch_place p.units)) it left in
        let z : (ℕ × ℕ) × UnitPlace = from.0 in
        let at = place_of (zip (map unit_point units) (map stretch_place p.units)) z from.1 in
        let parts = zip_parts (map unit_point units) (map stretch_place p.units) at.0 z at.1 in
        let u = map_at unit_point units at.0 z.0 parts.0 in
        let s = map_at stretch_place p.units at.0 z.1 parts.1 in
        of_unit at.0 u.0 s.0 u.1 s.1 (ap (λ (x : ℕ × ℕ). item_of_unit (x, s.0.place)) u.2 ∙ ap (λ (x : UnitPlace). item_of_unit (z.0, x)) s.2 ∙ from.2)
    | inr right ↦
        let from = contains_map item_of_word (zip (map word_point words) p.words) it right in
        let z : (ℕ × ℕ) × ℕ = from.0 in
        let at = place_of (zip (map word_point words) p.words) z from.1 in
        let parts = zip_parts (map word_point words) p.words at.0 z at.1 in
        let w = map_at word_point words at.0 z.0 parts.0 in
        of_word at.0 w.0 z.1 w.1 parts.1 (ap (λ (x : ℕ × ℕ). item_of_word (x, z.1)) w.2 ∙ from.2)
  ]

  pub unit_among : (k : ℕ) (u : SeqUnit) (s : Stretch) → slice_get units k ≡ Some u → slice_get p.units k ≡ Some s → Contains placing.items (item_of_unit (unit_point u, s.place))
  unit_among k u s e f =
      let it : Item = item_of_unit (unit_point u, s.place) in
      let points = slice_get-map unit_point units k ∙ ap (option_map unit_point) e in
      let places = slice_get-map stretch_place p.units k ∙ ap (option_map stretch_place) f in
      let zipped = contains_at (zip (map unit_point units) (map stretch_place p.units)) k (unit_point u, s.place) (zip_at (map unit_point units) (map stretch_place p.units) k (unit_point u) s.place points places) in
      (placing.of.same it).1 (Contains-append_left (map item_of_unit (zip (map unit_point units) (map stretch_place p.units))) (map item_of_word (zip (map word_point words) p.words)) it (map_contains item_of_unit (zip (map unit_point units) (map stretch_place p.units)) (unit_point u, s.place) zipped))

  pub word_among : (k : ℕ) (w : PoolWord) (at : ℕ) → slice_get words k ≡ Some w → slice_get p.words k ≡ Some at → Contains placing.items (item_of_word (word_point w, at))
  word_among k w at e f =
      let it : Item = item_of_word (word_point w, at) in
      let points = slice_get-map word_point words k ∙ ap (option_map word_point) e in
      let zipped = contains_at (zip (map word_point words) p.words) k (word_point w, at) (zip_at (map word_point words) p.words k (word_point w) at points f) in
      (placing.of.same it).1 (Contains-append_right (map item_of_unit (zip (map unit_point units) (map stretch_place p.units))) (map item_of_word (zip (map word_point words) p.words)) it (map_contains item_of_word (zip (map word_point words) p.words) (word_point w, at) zipped))

  many_units : length p.units ≡ length units
  many_units = AllZip-long IsStretch units p.units placing.stretches

  many_words : length p.words ≡ length words
  many_words = placing.of.pool ∙ length-map words word_point

-- ONE PLACING'S OLD PLACES ARE ANOTHER'S

module _ (units : List SeqUnit) (words : List PoolWord) (p : Placing) (one : IsPlacing units words p) (q : Placing) (two : IsPlacing units words q) where
  -- an item of the one stands in the other, too
  record Other (it : Item) : Type 0 where
    item : Item
    among : Contains two.items item
    place : old_place it ≡ old_place item

  other : (it : Item) → Contains one.items it → Other it
  other it h = go (origin units words p one it h)
    where
      go : Origin units words p it → Other it
      go (of_unit k u s e f same) =
          let many : length q.units ≡ length units = many_units units words q two in
          let lt : k < length units = slice_get_within units k u e in
          let r = element_at q.units k (omega arith) in
          record { item = item_of_unit (unit_point u, r.0.place); among = unit_among units words q two k u r.0 e r.1; place = ap old_place (sym same) }
      go (of_word k w at e f same) =
          let many : length q.words ≡ length words = many_words units words q two in
          let lt : k < length words = slice_get_within words k w e in
          let to = element_at q.words k (omega arith) in
          record { item = item_of_word (word_point w, to.0); among = word_among units words q two k w to.0 e to.1; place = ap old_place (sym same) }

  places_in : (z : ℕ × ℕ) → Contains (map old_place one.items) z → Contains (map old_place two.items) z
  places_in z h =
      let from = contains_map old_place one.items z h in
      let o = other from.0 from.1 in
      subst (Contains (map old_place two.items)) (sym o.place ∙ from.2) (map_contains old_place two.items o.item o.among)

  sections_in : length p.sizes ≤ length q.sizes
  sections_in = elim one.sections.last [
    | inl none ↦ omega arith
    | inr last ↦
        let o = other last.0 last.1 in
        let within : o.item.section < length q.sizes = two.sections.within o.item o.among in
        let same : last.0.section ≡ o.item.section = ap (λ (x : ℕ × ℕ). x.0) o.place in
        let end : last.0.section + 1 ≡ length p.sizes = last.2 in
        omega arith
  ]

-- BOTH ARE ONE

module _ (units : List SeqUnit) (words : List PoolWord) (p q : Placing) (given : CanLay units words) (one : IsPlacing units words p) (two : IsPlacing units words q) (widths : map widths_of p.units ≡ map widths_of q.units) where
  same_widths : (k : ℕ) (s r : Stretch) → slice_get p.units k ≡ Some s → slice_get q.units k ≡ Some r → s.widths ≡ r.widths
  same_widths k s r e f =
      let left : slice_get (map widths_of p.units) k ≡ Some s.widths = slice_get-map widths_of p.units k ∙ ap (option_map widths_of) e in
      let right : slice_get (map widths_of q.units) k ≡ Some r.widths = slice_get-map widths_of q.units k ∙ ap (option_map widths_of) f in
      same_Some s.widths r.widths (sym left ∙ ap (λ (l : List (List Width)). slice_get l k) widths ∙ right)

  never_both : (k : ℕ) (u : SeqUnit) (l : ℕ) (w : PoolWord) → slice_get units k ≡ Some u → slice_get words l ≡ Some w → unit_point u ≡ word_point w → ⊥
  never_both k u l w e f same =
      let here = contains_at (map unit_point units) k (unit_point u) (slice_get-map unit_point units k ∙ ap (option_map unit_point) e) in
      let there = contains_at (map word_point words) l (word_point w) (slice_get-map word_point words l ∙ ap (option_map word_point) f) in
      given.apart (unit_point u) here (subst (Contains (map word_point words)) (sym same) there)

  unit_twins : (k : ℕ) (u : SeqUnit) (s : Stretch) (l : ℕ) (v : SeqUnit) (r : Stretch) → slice_get units k ≡ Some u → slice_get p.units k ≡ Some s → slice_get units l ≡ Some v → slice_get q.units l ≡ Some r → unit_point u ≡ unit_point v
      → Twins (item_of_unit (unit_point u, s.place)) (item_of_unit (unit_point v, r.place))
  unit_twins k u s l v r e f g h same =
      let index : k ≡ l = index_once unit_point units k l u v given.unit_order e g same in
      let ws : s.widths ≡ r.widths = same_widths k s r f (ap (slice_get q.units) index ∙ h) in
      let is = all_zip_at IsStretch units p.units k u s one.stretches e f in
      let other = all_zip_at IsStretch units q.units l v r two.stretches g h in
      record {
        section = ap (λ (x : ℕ × ℕ). x.0) same;
        old = ap (λ (x : ℕ × ℕ). x.1) same;
        word = refl;
        bytes = length_of s.widths;
        end = is.end;
        other = other.end ∙ ap (λ (x : List Width). r.place.start + length_of x) (sym ws);
      }

  word_twins : (w : PoolWord) (at : ℕ) (v : PoolWord) (to : ℕ) → word_point w ≡ word_point v → Twins (item_of_word (word_point w, at)) (item_of_word (word_point v, to))
  word_twins w at v to same = record { section = ap (λ (x : ℕ × ℕ). x.0) same; old = ap (λ (x : ℕ × ℕ). x.1) same; word = refl; bytes = 4; end = refl; other = refl }

  twins : (a b : Item) → Contains one.items a → Contains two.items b → old_place a ≡ old_place b → Twins a b
  twins a b m n same = go (origin units words p one a m) (origin units words q two b n)
    where
      go : Origin units words p a → Origin units words q b → Twins a b
      go (of_unit k u s e f x) (of_unit l v r g h y) =
          subst (Twins a) y (subst (λ (z : Item). Twins z (item_of_unit (unit_point v, r.place))) x (unit_twins k u s l v r e f g h (ap old_place x ∙ same ∙ ap old_place (sym y))))
      go (of_word k w at e f x) (of_word l v to g h y) =
          subst (Twins a) y (subst (λ (z : Item). Twins z (item_of_word (word_point v, to))) x (word_twins w at v to (ap old_place x ∙ same ∙ ap old_place (sym y))))
      go (of_unit k u s e f x) (of_word l v to g h y) = absurd (never_both k u l v e g (ap old_place x ∙ same ∙ ap old_place (sym y)))
      go (of_word k w at e f x) (of_unit l v r g h y) = absurd (never_both l v k w g e (ap old_place y ∙ sym same ∙ ap old_place (sym x)))

  keys : map old_place one.items ≡ map old_place two.items
  keys = places_once (map old_place one.items) (map old_place two.items) one.of.rise two.of.rise (λ z. (places_in units words p one q two z, places_in units words q two p one z))

  aligned : AllZip Twins one.items two.items
  aligned = all_zip_from Twins one.items two.items (sym (length-map one.items old_place) ∙ ap length keys ∙ length-map two.items old_place) each
    where
      each : (k : ℕ) (x y : Item) → slice_get one.items k ≡ Some x → slice_get two.items k ≡ Some y → Twins x y
      each k x y e f =
          let left : slice_get (map old_place one.items) k ≡ Some (old_place x) = slice_get-map old_place one.items k ∙ ap (option_map old_place) e in
          let right : slice_get (map old_place two.items) k ≡ Some (old_place y) = slice_get-map old_place two.items k ∙ ap (option_map old_place) f in
          twins x y (contains_at one.items k x e) (contains_at two.items k y f) (same_Some (old_place x) (old_place y) (sym left ∙ ap (λ (l : List (ℕ × ℕ)). slice_get l k) keys ∙ right))

  many_sizes : length p.sizes ≡ length q.sizes
  many_sizes = let a = sections_in units words p one q two in let b = sections_in units words q two p one in omega arith

  same_sizes : p.sizes ≡ q.sizes
  same_sizes = same_at_each p.sizes q.sizes many_sizes (λ j a b e f. (stand_once one.items two.items aligned j 0 a b (one.stand j a e) (two.stand j b f)).1)

  carried : (it : Item) → Contains one.items it → Contains two.items it
  carried it h =
      let size = element_at p.sizes it.section (one.sections.within it h) in
      let there : slice_get q.sizes it.section ≡ Some size.0 = ap (λ (l : List ℕ). slice_get l it.section) (sym same_sizes) ∙ size.1 in
      let same = (stand_once one.items two.items aligned it.section 0 size.0 size.0 (one.stand it.section size.0 size.1) (two.stand it.section size.0 there)).0 in
      let among = filter_contains (λ (i : Item). i.section == it.section) one.items it h (eq-eqb it.section it.section refl) in
      (contains_filter (λ (i : Item). i.section == it.section) two.items it (subst (λ (l : List Item). Contains l it) same among)).0

  same_unit : (k : ℕ) (s r : Stretch) → slice_get p.units k ≡ Some s → slice_get q.units k ≡ Some r → s ≡ r
  same_unit k s r e f =
      let many : length p.units ≡ length units = many_units units words p one in
      let lt : k < length p.units = slice_get_within p.units k s e in
      let found = element_at units k (omega arith) in
      let u : SeqUnit = found.0 in
      let a : Item = item_of_unit (unit_point u, s.place) in
      let b : Item = item_of_unit (unit_point u, r.place) in
      let same : a ≡ b = once old_place two.items a b two.of.rise (carried a (unit_among units words p one k u s found.1 e)) (unit_among units words q two k u r found.1 f) refl in
      let start : s.place.start ≡ r.place.start = ap (λ (i : Item). i.new) same in
      let end : s.place.end ≡ r.place.end = ap (λ (i : Item). i.end) same in
      let ws : s.widths ≡ r.widths = same_widths k s r e f in
      let is = all_zip_at IsStretch units p.units k u s one.stretches found.1 e in
      let other = all_zip_at IsStretch units q.units k u r two.stretches found.1 f in
      let back : s.place.back ≡ r.place.back = is.back ∙ ap (λ (n : ℕ). n + bytes_before s.widths (landing_of u)) start ∙ ap (λ (x : List Width). r.place.start + bytes_before x (landing_of u)) ws ∙ sym other.back in
      let island : s.place.island ≡ r.place.island = is.island ∙ sym other.island in
      let place : s.place ≡ r.place =
      ap (λ (n : ℕ). record s.place { start = n }) start ∙ ap (λ (n : ℕ). record s.place { start = r.place.start; end = n }) end ∙ ap (λ (n : ℕ). record s.place { start = r.place.start; end = r.place.end; back = n }) back
      ∙ ap (λ (n : Option ℕ). record r.place { island = n }) island in
      ap (λ (x : List Width). record s { widths = x }) ws ∙ ap (λ (x : UnitPlace). record r { place = x }) place

  same_word : (k at to : ℕ) → slice_get p.words k ≡ Some at → slice_get q.words k ≡ Some to → at ≡ to
  same_word k at to e f =
      let many : length p.words ≡ length words = many_words units words p one in
      let lt : k < length p.words = slice_get_within p.words k at e in
      let found = element_at words k (omega arith) in
      let w : PoolWord = found.0 in
      let a : Item = item_of_word (word_point w, at) in
      let b : Item = item_of_word (word_point w, to) in
      let same : a ≡ b = once old_place two.items a b two.of.rise (carried a (word_among units words p one k w at found.1 e)) (word_among units words q two k w to found.1 f) refl in
      ap (λ (i : Item). i.new) same

  same_units : p.units ≡ q.units
  same_units = same_at_each p.units q.units (many_units units words p one ∙ sym (many_units units words q two)) same_unit

  same_words : p.words ≡ q.words
  same_words = same_at_each p.words q.words (many_words units words p one ∙ sym (many_words units words q two)) same_word

  one_placing : p ≡ q
  one_placing = ap (λ (l : List Stretch). record p { units = l }) same_units ∙ ap (λ (l : List ℕ). record p { units = q.units; words = l }) same_words ∙ ap (λ (l : List ℕ). record q { sizes = l }) same_sizes

pub placings_are_one : PlacingsAreOne
placings_are_one units words p q given one two widths = one_placing units words p q given one two widths
