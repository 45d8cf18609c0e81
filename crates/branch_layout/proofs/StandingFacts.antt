-- What stands so far, and one more unit or word behind it.
use Rattle.std.proofs.Common.{◌≡◌, ◌≤◌, ◌<◌, ℕ, zero, suc, ◌+◌, ◌*◌, ◌^◌, ◌⊎◌, inl, inr, List, [], ◌∷◌, ◌++◌, length, map, true, false, refl, sym, ap, ◌∙◌, subst, arith, Some, ne_eqb, eq-eqb, append_assoc, ◌-◌, ◌/◌}
use Rattle.std.specs.Prelude.{slice_get, Contains, ◌==◌}
use Rattle.std.specs.List.{zip}
use Rattle.std.specs.List.Sorted.{IsStrictlySortedBy}
use Rattle.std.specs.declared.cmp.Ordering.TheVariants.{Less}
use Rattle.std.proofs.lemmas.List.{map-append, length-append, length-map}
use Rattle.std.proofs.lemmas.List.Elements.{Contains-append_left, Contains-append_right, Contains-append_cases, Contains-push, Contains-push_cases}
use Rattle.elf_model.proofs.Elements.{contains_map, contains_filter, place_of, contains_at, contains_none}
use Rattle.std.proofs.lemmas.Option.{none-some, slice_get_within}
use Rattle.std.proofs.lemmas.Bool.{eqb-true}
use Rattle.code_ranges.specs.Spans.{place_cmp}
use Rattle.code_ranges.proofs.MarkFacts.{less}
use Rattle.hardened_form.specs.Places.{UnitPlace, Places}
use Rattle.hardened_form.specs.Items.{Item, item_of_unit, item_of_word, all_items, old_place, AreItems, items_in, new_start, StandFrom}
use Rattle.seq_core.specs.declared.units.Unit.{Unit as SeqUnit}
use Rattle.flow_recover.specs.declared.flows.PoolWord.{PoolWord}
use Rattle.branch_layout.specs.Copies.{copies_of}
use Rattle.branch_layout.specs.Widths.{AreLong}
use Rattle.branch_layout.specs.Placings.{Stretch, place_of as stretch_place, places_of, IsStretch, unit_point, word_point}
use Rattle.branch_layout.specs.Standing.{StandingParts, Stands, StandsUsed, AllBefore, IsPlaced, Finishes}
use Rattle.branch_layout.proofs.Lists.{zip_push, all_zip_push, filter_push, rising_push, get_push_cases, empty_list}

-- ONE MORE AMONG ALL ITEMS

middle_cases : {X : Type 0} (xs ys : List X) (m x : X) → Contains ((xs ++ m ∷ []) ++ ys) x → Contains (xs ++ ys) x ⊎ (m ≡ x)
middle_cases xs ys m x h = elim (Contains-append_cases (xs ++ m ∷ []) ys x h) [
  | inl left ↦ elim (Contains-push_cases xs m x left) [ inl old ↦ inl (Contains-append_left xs ys x old) | inr new ↦ inr new ]
  | inr right ↦ inl (Contains-append_right xs ys x right)
]

middle_keeps : {X : Type 0} (xs ys : List X) (m x : X) → Contains (xs ++ ys) x → Contains ((xs ++ m ∷ []) ++ ys) x
middle_keeps xs ys m x h = elim (Contains-append_cases xs ys x h) [
  | inl left ↦ Contains-append_left (xs ++ m ∷ []) ys x (Contains-append_left xs (m ∷ []) x left)
  | inr right ↦ Contains-append_right (xs ++ m ∷ []) ys x right
]

middle_has : {X : Type 0} (xs ys : List X) (m : X) → Contains ((xs ++ m ∷ []) ++ ys) m
middle_has xs ys m = Contains-append_left (xs ++ m ∷ []) ys m (Contains-push xs m)

zip_first_at : {A B : Type 0} (xs : List A) (ys : List B) (k : ℕ) (z : A × B) → slice_get (zip xs ys) k ≡ Some z → slice_get xs k ≡ Some z.0
zip_first_at [] ys k z e = absurd (cc)
zip_first_at (x ∷ xs) [] k z e = absurd (cc)
zip_first_at {A = A} {B = B} (x ∷ xs) (y ∷ ys) zero z e = let s : (x, y) ≡ z = cc in ap (λ (p : A × B). Some p.0) s
zip_first_at (x ∷ xs) (y ∷ ys) (suc k) z e = zip_first_at xs ys k z e

first_of_pair : {A B : Type 0} (xs : List A) (ys : List B) (z : A × B) → Contains (zip xs ys) z → Contains xs z.0
first_of_pair xs ys z h = let at = place_of (zip xs ys) z h in contains_at xs at.0 z.0 (zip_first_at xs ys at.0 z at.1)

-- where an item was
old_among : (points words : List (ℕ × ℕ)) (p : Places) (it : Item) → Contains (all_items points words p) it → Contains points (old_place it) ⊎ Contains words (old_place it)
old_among points words p it h = elim (Contains-append_cases (map item_of_unit (zip points p.units)) (map item_of_word (zip words p.words)) it h) [
  | inl left ↦
      let from = contains_map item_of_unit (zip points p.units) it left in
      inl (subst (λ (i : Item). Contains points (old_place i)) from.2 (first_of_pair points p.units from.0 from.1))
  | inr right ↦
      let from = contains_map item_of_word (zip words p.words) it right in
      inr (subst (λ (i : Item). Contains words (old_place i)) from.2 (first_of_pair words p.words from.0 from.1))
]

module _ (points words : List (ℕ × ℕ)) (p : Places) (items : List Item) (of : AreItems points words p items) where
  all_before : (q : ℕ × ℕ) → AllBefore points q → AllBefore words q → (it : Item) → Contains items it → place_cmp (old_place it) q ≡ Less
  all_before q a b it h = elim (old_among points words p it ((of.same it).0 h)) [ inl left ↦ a (old_place it) left | inr right ↦ b (old_place it) right ]

  rise_on : (it : Item) → AllBefore points (old_place it) → AllBefore words (old_place it) → IsStrictlySortedBy place_cmp (map old_place (items ++ it ∷ []))
  rise_on it a b =
      subst (IsStrictlySortedBy place_cmp) (sym (map-append old_place items (it ∷ [])))
      (rising_push place_cmp (map old_place items) (old_place it) of.rise
      (λ y h. let from = contains_map old_place items y h in subst (λ (z : ℕ × ℕ). place_cmp z (old_place it) ≡ Less) from.2 (all_before (old_place it) a b from.0 from.1)))

  pub unit_more : (q : ℕ × ℕ) (u : UnitPlace) → AllBefore points q → AllBefore words q
      → AreItems (points ++ q ∷ []) words (record { units = p.units ++ u ∷ []; words = p.words }) (items ++ item_of_unit (q, u) ∷ [])
  unit_more q u a b =
      let it : Item = item_of_unit (q, u) in
      let left : List Item = map item_of_unit (zip points p.units) in
      let right : List Item = map item_of_word (zip words p.words) in
      let shape : all_items (points ++ q ∷ []) words (record { units = p.units ++ u ∷ []; words = p.words }) ≡ (left ++ it ∷ []) ++ right =
      ap (λ (l : List Item). l ++ right) (ap (map item_of_unit) (zip_push points p.units q u of.units) ∙ map-append item_of_unit (zip points p.units) ((q, u) ∷ [])) in
      record {
        units = length-append p.units (u ∷ []) ∙ ap (λ n. n + 1) of.units ∙ sym (length-append points (q ∷ []));
        pool = of.pool;
        same = λ x. (
          λ h. subst (λ (l : List Item). Contains l x) (sym shape)
              (elim (Contains-push_cases items it x h) [ inl old ↦ middle_keeps left right it x ((of.same x).0 old) | inr new ↦ subst (Contains ((left ++ it ∷ []) ++ right)) new (middle_has left right it) ]),
          λ h. elim (middle_cases left right it x (subst (λ (l : List Item). Contains l x) shape h)) [
            | inl old ↦ Contains-append_left items (it ∷ []) x ((of.same x).1 old)
            | inr new ↦ subst (Contains (items ++ it ∷ [])) new (Contains-push items it)
          ],
        );
        rise = rise_on it a b;
      }

  pub word_more : (q : ℕ × ℕ) (at : ℕ) → AllBefore points q → AllBefore words q
      → AreItems points (words ++ q ∷ []) (record { units = p.units; words = p.words ++ at ∷ [] }) (items ++ item_of_word (q, at) ∷ [])
  word_more q at a b =
      let it : Item = item_of_word (q, at) in
      let left : List Item = map item_of_unit (zip points p.units) in
      let right : List Item = map item_of_word (zip words p.words) in
      let shape : all_items points (words ++ q ∷ []) (record { units = p.units; words = p.words ++ at ∷ [] }) ≡ (left ++ right) ++ it ∷ [] =
      ap (λ (l : List Item). left ++ l) (ap (map item_of_word) (zip_push words p.words q at of.pool) ∙ map-append item_of_word (zip words p.words) ((q, at) ∷ [])) ∙ sym (append_assoc left right (it ∷ [])) in
      record {
        units = of.units;
        pool = length-append p.words (at ∷ []) ∙ ap (λ n. n + 1) of.pool ∙ sym (length-append words (q ∷ []));
        same = λ x. (
          λ h. subst (λ (l : List Item). Contains l x) (sym shape)
              (elim (Contains-push_cases items it x h) [ inl old ↦ Contains-append_left (left ++ right) (it ∷ []) x ((of.same x).0 old) | inr new ↦ subst (Contains ((left ++ right) ++ it ∷ [])) new (Contains-push (left ++ right) it) ]),
          λ h. elim (Contains-push_cases (left ++ right) it x (subst (λ (l : List Item). Contains l x) shape h)) [
            | inl old ↦ Contains-append_left items (it ∷ []) x ((of.same x).1 old)
            | inr new ↦ subst (Contains (items ++ it ∷ [])) new (Contains-push items it)
          ],
        );
        rise = rise_on it a b;
      }

-- ONE MORE IN A SECTION

pub stands_more : (x : ℕ) (items : List Item) (size : ℕ) (it : Item) → StandFrom x items size → it.new ≡ new_start it.word size → StandFrom x (items ++ it ∷ []) it.end
stands_more x [] size it s e = (subst (λ n. it.new ≡ new_start it.word n) (sym s) e, refl)
stands_more x (a ∷ items) size it s e = (s.0, stands_more a.end items size it s.1 e)

elsewhere : (items : List Item) (it : Item) (j : ℕ) → (it.section == j) ≡ false → items_in (items ++ it ∷ []) j ≡ items_in items j
elsewhere items it j e = filter_push (λ (i : Item). i.section == j) items it false e ∙ nothing (items_in items j)
  where
    nothing : (l : List Item) → l ++ [] ≡ l
    nothing [] = refl
    nothing (a ∷ l) = ap (λ m. a ∷ m) (nothing l)

there : (items : List Item) (it : Item) (j : ℕ) → (it.section == j) ≡ true → items_in (items ++ it ∷ []) j ≡ items_in items j ++ it ∷ []
there items it j e = filter_push (λ (i : Item). i.section == j) items it true e

apart_section : (a b : ℕ) → b < a → (a == b) ≡ false
apart_section a b lt = ne_eqb a b (λ (e : a ≡ b). omega arith)

-- A SECTION ENDS

sizes_more : (items : List Item) (sizes : List ℕ) (end : ℕ) → ((j size : ℕ) → slice_get sizes j ≡ Some size → StandFrom 0 (items_in items j) size) → StandFrom 0 (items_in items (length sizes)) end
    → (j size : ℕ) → slice_get (sizes ++ end ∷ []) j ≡ Some size → StandFrom 0 (items_in items j) size
sizes_more items sizes end stand last j size e = elim (get_push_cases sizes end size j e) [
  | inl old ↦ stand j size old
  | inr new ↦ subst (λ n. StandFrom 0 (items_in items j) n) new.1 (subst (λ n. StandFrom 0 (items_in items n) end) (sym new.0) last)
]

sizes_small : (sizes : List ℕ) (end most : ℕ) → ((j size : ℕ) → slice_get sizes j ≡ Some size → size ≤ most) → end ≤ most → (j size : ℕ) → slice_get (sizes ++ end ∷ []) j ≡ Some size → size ≤ most
sizes_small sizes end most small last j size e = elim (get_push_cases sizes end size j e) [ inl old ↦ small j size old | inr new ↦ let same : end ≡ size = new.1 in omega arith ]

nothing_yet : (items : List Item) (n : ℕ) → ((it : Item) → Contains items it → it.section ≤ n) → items_in items (n + 1) ≡ []
nothing_yet items n within = empty_list (items_in items (n + 1)) (λ x h.
    let in_it = contains_filter (λ (i : Item). i.section == n + 1) items x h in
    let same : x.section ≡ n + 1 = eqb-true x.section (n + 1) in_it.1 in
    let low : x.section ≤ n = within x in_it.0 in
    omega arith)

pub closes : (units : List SeqUnit) (words : List PoolWord) (s : StandingParts) → Stands units words s → length s.placing.sizes + 1 < 2 ^ 32
    → Stands units words (record { placing = record s.placing { sizes = s.placing.sizes ++ s.end ∷ [] }; end = 0 })
closes units words s st few =
    let long : length (s.placing.sizes ++ s.end ∷ []) ≡ length s.placing.sizes + 1 = length-append s.placing.sizes (s.end ∷ []) in
    record {
      items = st.items;
      of = st.of;
      stretches = st.stretches;
      long = st.long;
      within = λ it h. let low : it.section ≤ length s.placing.sizes = st.within it h in omega arith;
      stand = sizes_more st.items s.placing.sizes s.end st.stand st.last;
      last = subst (λ n. StandFrom 0 (items_in st.items n) 0) (sym long) (subst (λ (l : List Item). StandFrom 0 l 0) (sym (nothing_yet st.items (length s.placing.sizes) st.within)) refl);
      short = omega arith;
      few = omega arith;
      small = sizes_small s.placing.sizes s.end (128 * (length units + length words)) st.small st.short;
    }

-- ONE MORE UNIT OR WORD

module _ (units : List SeqUnit) (words : List PoolWord) (s : StandingParts) (st : Stands units words s) where
  within_more : (it : Item) → it.section ≡ length s.placing.sizes → (x : Item) → Contains (st.items ++ it ∷ []) x → x.section ≤ length s.placing.sizes
  within_more it e x h = elim (Contains-push_cases st.items it x h) [
    | inl old ↦ st.within x old
    | inr new ↦ let same : x.section ≡ it.section = ap (λ (i : Item). i.section) (sym new) in omega arith
  ]

  stand_more : (it : Item) → it.section ≡ length s.placing.sizes → (j size : ℕ) → slice_get s.placing.sizes j ≡ Some size → StandFrom 0 (items_in (st.items ++ it ∷ []) j) size
  stand_more it e j size g =
      let lt : j < length s.placing.sizes = slice_get_within s.placing.sizes j size g in
      subst (λ (l : List Item). StandFrom 0 l size) (sym (elsewhere st.items it j (apart_section it.section j (omega arith)))) (st.stand j size g)

  open_more : (it : Item) → it.section ≡ length s.placing.sizes → it.new ≡ new_start it.word s.end → StandFrom 0 (items_in (st.items ++ it ∷ []) (length s.placing.sizes)) it.end
  open_more it e new =
      subst (λ (l : List Item). StandFrom 0 l it.end) (sym (there st.items it (length s.placing.sizes) (eq-eqb it.section (length s.placing.sizes) e)))
      (stands_more 0 (items_in st.items (length s.placing.sizes)) s.end it st.last new)

  pub unit_stands : (u : SeqUnit) (t : Stretch) → IsStretch u t → AreLong (copies_of u.seq.steps) t.widths → t.place.start ≡ s.end → t.place.end ≤ s.end + 128 → u.section ≡ length s.placing.sizes
      → AllBefore (map unit_point units) (unit_point u) → AllBefore (map word_point words) (unit_point u)
      → StandsUsed (units ++ u ∷ []) words (record { placing = record s.placing { units = s.placing.units ++ t ∷ [] }; end = t.place.end })
  unit_stands u t is long start small section a b =
      let it : Item = item_of_unit (unit_point u, t.place) in
      let count : length (units ++ u ∷ []) ≡ length units + 1 = length-append units (u ∷ []) in
      let bound : s.end ≤ 128 * (length units + length words) = st.short in
      record {
        stands = record {
          items = st.items ++ it ∷ [];
          of = subst (λ (l : List (ℕ × ℕ)). AreItems l (map word_point words) (places_of (record s.placing { units = s.placing.units ++ t ∷ [] })) (st.items ++ it ∷ [])) (sym (map-append unit_point units (u ∷ [])))
              (subst (λ (l : List UnitPlace). AreItems (map unit_point units ++ unit_point u ∷ []) (map word_point words) (record { units = l; words = s.placing.words }) (st.items ++ it ∷ [])) (sym (map-append stretch_place s.placing.units (t ∷ [])))
              (unit_more (map unit_point units) (map word_point words) (places_of s.placing) st.items st.of (unit_point u) t.place a b));
          stretches = all_zip_push IsStretch units s.placing.units u t st.stretches is;
          long = all_zip_push (λ (v : SeqUnit) (r : Stretch). AreLong (copies_of v.seq.steps) r.widths) units s.placing.units u t st.long long;
          within = within_more it section;
          stand = stand_more it section;
          last = open_more it section start;
          short = omega arith;
          few = st.few;
          small = λ j size e. let low : size ≤ 128 * (length units + length words) = st.small j size e in omega arith;
        };
        used = record { used = inr (it, Contains-push st.items it, section) };
      }

  pub word_stands : (w : PoolWord) (at : ℕ) → at ≡ (s.end + 3) / 4 * 4 → w.section ≡ length s.placing.sizes
      → AllBefore (map unit_point units) (word_point w) → AllBefore (map word_point words) (word_point w)
      → StandsUsed units (words ++ w ∷ []) (record { placing = record s.placing { words = s.placing.words ++ at ∷ [] }; end = at + 4 })
  word_stands w at e section a b =
      let it : Item = item_of_word (word_point w, at) in
      let count : length (words ++ w ∷ []) ≡ length words + 1 = length-append words (w ∷ []) in
      let bound : s.end ≤ 128 * (length units + length words) = st.short in
      let up : at ≡ (s.end + 4 - 1) / 4 * 4 = omega arith in
      record {
        stands = record {
          items = st.items ++ it ∷ [];
          of = subst (λ (l : List (ℕ × ℕ)). AreItems (map unit_point units) l (places_of (record s.placing { words = s.placing.words ++ at ∷ [] })) (st.items ++ it ∷ [])) (sym (map-append word_point words (w ∷ [])))
              (word_more (map unit_point units) (map word_point words) (places_of s.placing) st.items st.of (word_point w) at a b);
          stretches = st.stretches;
          long = st.long;
          within = within_more it section;
          stand = stand_more it section;
          last = open_more it section up;
          short = omega arith;
          few = st.few;
          small = λ j size e. let low : size ≤ 128 * (length units + length words) = st.small j size e in omega arith;
        };
        used = record { used = inr (it, Contains-push st.items it, section) };
      }

-- what is behind all that stands is in its last section or a later one
pub section_reached : (units : List SeqUnit) (words : List PoolWord) (s : StandingParts) (q : ℕ × ℕ) → StandsUsed units words s → AllBefore (map unit_point units) q → AllBefore (map word_point words) q → length s.placing.sizes ≤ q.0
section_reached units words s q st a b = elim st.used.used [
  | inl none ↦ let e : length s.placing.sizes ≡ 0 = none.1 in omega arith
  | inr some ↦
      let it : Item = some.0 in
      let low = less (old_place it) q (all_before (map unit_point units) (map word_point words) (places_of s.placing) st.stands.items st.stands.of q a b it some.1) in
      let e : it.section ≡ length s.placing.sizes = some.2 in
      elim low [ inl under ↦ omega arith | inr same ↦ let f : it.section ≡ q.0 = same.0 in omega arith ]
]

-- THE WHOLE

pub finished : (s : StandingParts) → Finishes s (record s.placing { sizes = s.placing.sizes ++ s.end ∷ [] })
finished s units words used some =
    let st = used.stands in
    let long : length (s.placing.sizes ++ s.end ∷ []) ≡ length s.placing.sizes + 1 = length-append s.placing.sizes (s.end ∷ []) in
    let few : length s.placing.sizes < 2 ^ 32 = st.few in
    record {
      placing = record {
        items = st.items;
        of = st.of;
        stretches = st.stretches;
        sections = record {
          within = λ it h. let low : it.section ≤ length s.placing.sizes = st.within it h in omega arith;
          last = elim used.used.used [
            | inl none ↦ let e : length units + length words ≡ 0 = none.0 in absurd (omega arith)
            | inr item ↦ let e : item.0.section ≡ length s.placing.sizes = item.2 in inr (item.0, item.1, omega arith)
          ];
        };
        stand = sizes_more st.items s.placing.sizes s.end st.stand st.last;
      };
      long = st.long;
      few = omega arith;
      small = sizes_small s.placing.sizes s.end (128 * (length units + length words)) st.small st.short;
    }

none_rise : IsStrictlySortedBy place_cmp []
unfolding IsStrictlySortedBy
none_rise = tt

pub nothing_stands : StandsUsed [] [] (record { placing = record { units = []; words = []; sizes = [] }; end = 0 })
nothing_stands = record {
  stands = record {
    items = [];
    of = record { units = refl; pool = refl; same = λ x. (λ h. h, λ h. h); rise = none_rise };
    stretches = tt;
    long = tt;
    within = λ it h. absurd (contains_none it h);
    stand = λ j size e. absurd (none-some size e);
    last = refl;
    short = omega arith;
    few = omega arith;
    small = λ j size e. absurd (none-some size e);
  };
  used = record { used = inl (refl, refl) };
}

nothing_in : {X : Type 0} (f : X → ℕ × ℕ) (xs : List X) (q : ℕ × ℕ) → length xs ≡ 0 → Contains (map f xs) q → ⊥
nothing_in f xs q none h =
    let lt : h.0 < length (map f xs) = h.1 in
    let long : length (map f xs) ≡ length xs = length-map xs f in
    omega arith

-- without units and words there is no section
pub nothing_placed : (units : List SeqUnit) (words : List PoolWord) (s : StandingParts) → StandsUsed units words s → length units + length words ≡ 0 → IsPlaced units words s.placing
nothing_placed units words s used none =
    let st = used.stands in
    let no_units : length units ≡ 0 = omega arith in
    let no_words : length words ≡ 0 = omega arith in
    let no_item : ((it : Item) → Contains st.items it → ⊥) = λ it h. elim (old_among (map unit_point units) (map word_point words) (places_of s.placing) it ((st.of.same it).0 h)) [
      | inl left ↦ nothing_in unit_point units (old_place it) no_units left
      | inr right ↦ nothing_in word_point words (old_place it) no_words right
    ] in
    let few : length s.placing.sizes < 2 ^ 32 = st.few in
    record {
      placing = record {
        items = st.items;
        of = st.of;
        stretches = st.stretches;
        sections = record {
          within = λ it h. absurd (no_item it h);
          last = elim used.used.used [ inl zero_sizes ↦ inl zero_sizes.1 | inr item ↦ absurd (no_item item.0 item.1) ];
        };
        stand = st.stand;
      };
      long = st.long;
      few = omega arith;
      small = st.small;
    }
