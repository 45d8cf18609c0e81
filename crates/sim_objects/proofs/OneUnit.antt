-- A byte of the hardened code is in the instructions of one unit at most, and a word there is of one word of the object.
use Rattle.std.specs.Prelude.{◌≡◌, ◌<◌, ◌≤◌, ℕ, ◌+◌, Bool, true, false, List, map, Some, slice_get, Contains, refl}
use Rattle.std.specs.List.{zip}
use Rattle.std.proofs.Common.{arith, inl, inr, ap, sym, ◌∙◌}
use Rattle.std.proofs.lemmas.Bool.{both_ways}
use Rattle.std.proofs.lemmas.Option.{same_Some}
use Rattle.std.proofs.lemmas.List.Elements.{Contains-append_right}
use Rattle.elf_model.specs.declared.objects.Section.{Section}
use Rattle.elf_model.specs.Objects.{ObjectParts, is_code}
use Rattle.elf_model.proofs.Elements.{map_contains, place_of, contains_at}
use Rattle.flow_recover.specs.declared.flows.Point.{Point}
use Rattle.flow_recover.specs.declared.flows.PoolWord.{PoolWord}
use Rattle.flow_recover.specs.Flows.{FlowParts}
use Rattle.flow_recover.specs.Points.{place_of_point}
use Rattle.flow_recover.specs.WholeFlows.{place_of_word}
use Rattle.flow_recover.proofs.OneFlow.{index_once, point_once_at}
use Rattle.hardened_form.specs.Places.{UnitPlace, Places as UnitPlaces}
use Rattle.hardened_form.specs.Items.{Item, item_of_unit, item_of_word, items_in, old_place}
use Rattle.hardened_form.specs.Standing.{units, old_points, old_words}
use Rattle.hardened_form.specs.Relocs.{IsWordOf, in_pool, in_island}
use Rattle.hardened_form.specs.Carriers.{Carrier}
use Rattle.sim_answers.specs.Units.{code_end}
use Rattle.sim_answers.specs.Forms.{IsFormOf}
use Rattle.sim_answers.proofs.Pairs.{mapped_zip, zip_left}
use Rattle.sim_answers.proofs.PointPlaces.{item_of, point_word}
use Rattle.sim_answers.proofs.CodeWords.{unit_end, items_apart, here_items, item_up, stand}
use Rattle.sim_objects.proofs.Kept.{zip_get}

module _ (o h : ObjectParts) (f : FlowParts) (p : UnitPlaces) (carriers : List (List Carrier)) (is : IsFormOf o h f p carriers) where
  pub point_once : (x y : Point) (u v : UnitPlace) → Contains (units f p) (x, u) → Contains (units f p) (y, v) → place_of_point x ≡ place_of_point y → x ≡ y
  point_once x y u v c d e =
      let n = place_of (units f p) (x, u) c in
      let m = place_of (units f p) (y, v) d in
      let a = zip_get f.points p.units n.0 (x, u) n.1 in
      let b = zip_get f.points p.units m.0 (y, v) m.1 in
      let same = point_once_at o f is.flow n.0 m.0 x y a.0 b.0 (ap (λ (z : ℕ × ℕ). z.0) e) (ap (λ (z : ℕ × ℕ). z.1) e) in
      same_Some x y (sym a.0 ∙ (ap (slice_get f.points) same ∙ b.0))

  word_once : (w v : PoolWord) → Contains f.words w → Contains f.words v → place_of_word w ≡ place_of_word v → w ≡ v
  word_once w v c d e =
      let n = place_of f.words w c in
      let m = place_of f.words v d in
      let same = index_once place_of_word f.words n.0 m.0 w v is.flow.words_order n.1 m.1 e in
      same_Some w v (sym n.1 ∙ (ap (slice_get f.words) same ∙ m.1))

  module _ (j : ℕ) (t : Section) (there : slice_get h.sections j ≡ Some t) (code : is_code t ≡ true) where
    unit_item : (x : Point) (u : UnitPlace) → Contains (units f p) (x, u) → x.section ≡ j → Contains (items_in is.form.lists.items j) (item_of_unit (place_of_point x, u))
    unit_item x u c e = here_items o h f p carriers is j t there code (item_of_unit (place_of_point x, u)) (item_of f p is.form.lists.items is.form.tables.lists.items x u c) e

    -- also where a unit has a word of its own
    pub one_whole : (x y : Point) (u v : UnitPlace) → Contains (units f p) (x, u) → Contains (units f p) (y, v) → x.section ≡ j → y.section ≡ j
        → (a : ℕ) → u.start ≤ a → a < u.end → v.start ≤ a → a < v.end → x ≡ y
    one_whole x y u v c d e g a low high from below =
        elim (items_apart (items_in is.form.lists.items j) 0 t.size (stand o h f p carriers is j t there code) (item_up o h f p carriers is j t there code)
        (item_of_unit (place_of_point x, u)) (item_of_unit (place_of_point y, v)) (unit_item x u c e) (unit_item y v d g)) [
          | inl same ↦ point_once x y u v c d (ap old_place same)
          | inr s ↦ elim s [ inl k ↦ absurd (omega (arith, k, from, high)) | inr k ↦ absurd (omega (arith, k, low, below)) ]
        ]

    pub one_unit : (x y : Point) (u v : UnitPlace) → Contains (units f p) (x, u) → Contains (units f p) (y, v) → x.section ≡ j → y.section ≡ j
        → (a : ℕ) → u.start ≤ a → a < code_end u → v.start ≤ a → a < code_end v → x ≡ y
    one_unit x y u v c d e g a low high from below =
        let one = (unit_end u h x.section (is.units.each x u c)).1 in
        let two = (unit_end v h y.section (is.units.each y v d)).1 in
        one_whole x y u v c d e g a low (omega (arith, high, one)) from (omega (arith, below, two))

    -- the item that a word of the object stands in
    record WordItem (w : PoolWord) (y : ℕ) : Type 0 where
      item : Item
      listed : Contains (items_in is.form.lists.items j) item
      low : item.new ≤ y
      high : item.end ≡ y + 4
      pooled : item.word ≡ true → old_place item ≡ place_of_word w
      loaded : item.word ≡ false → (x : Point) × (u : UnitPlace) × (n : ℕ) × Contains (units f p) (x, u) × (old_place item ≡ place_of_point x) × (x.word ≡ Some n) × (slice_get f.words n ≡ Some w)

    word_item : (w : PoolWord) (y : ℕ) → IsWordOf f p w y → w.section ≡ j → WordItem w y
    word_item w y (in_pool _ c) e =
        let it : Item = item_of_word (place_of_word w, y) in
        record {
          item = it;
          listed = here_items o h f p carriers is j t there code it ((is.form.tables.lists.items.same it).1 (Contains-append_right (map item_of_unit (zip (old_points f) p.units)) (map item_of_word (zip (old_words f) p.words)) it
              (map_contains item_of_word (zip (old_words f) p.words) (place_of_word w, y) (mapped_zip place_of_word f.words p.words w y c)))) e;
          low = omega arith;
          high = refl;
          pooled = λ s. refl;
          loaded = λ s. absurd (both_ways true s refl);
        }
    word_item w y (in_island x u n _ c loads at i) e =
        let b = (is.units.each x u c).island y i in
        let first = b.0 in
        let section : x.section ≡ j = sym (point_word o f is.flow x (zip_left f.points p.units (x, u) c) n w loads at) ∙ e in
        record {
          item = item_of_unit (place_of_point x, u);
          listed = unit_item x u c section;
          low = omega (arith, first);
          high = b.2;
          pooled = λ s. absurd (both_ways false refl s);
          loaded = λ s. (x, u, n, c, refl, loads, at);
        }

    word_there : (w : PoolWord) (y : ℕ) → IsWordOf f p w y → Contains f.words w
    word_there w y (in_pool _ c) = zip_left f.words p.words (w, y) c
    word_there w y (in_island x u n _ c loads at i) = contains_at f.words n w at

    pub one_word : (w v : PoolWord) (y : ℕ) → IsWordOf f p w y → IsWordOf f p v y → w.section ≡ j → v.section ≡ j → w ≡ v
    one_word w v y a b e g =
        let k = word_item w y a e in
        let l = word_item v y b g in
        let kl = k.low in
        let kh = k.high in
        let ll = l.low in
        let lh = l.high in
        elim (items_apart (items_in is.form.lists.items j) 0 t.size (stand o h f p carriers is j t there code) (item_up o h f p carriers is j t there code) k.item l.item k.listed l.listed) [
          | inl same ↦ by_sort k l same k.item.word refl
          | inr s ↦ elim s [ inl m ↦ absurd (omega (arith, m, kh, ll)) | inr m ↦ absurd (omega (arith, m, lh, kl)) ]
        ]
      where
        by_sort : (k : WordItem w y) (l : WordItem v y) → k.item ≡ l.item → (s : Bool) → k.item.word ≡ s → w ≡ v
        by_sort k l same true s = word_once w v (word_there w y a) (word_there v y b) (sym (k.pooled s) ∙ (ap old_place same ∙ l.pooled (ap (λ (z : Item). z.word) (sym same) ∙ s)))
        by_sort k l same false s =
            let p1 = k.loaded s in
            let p2 = l.loaded (ap (λ (z : Item). z.word) (sym same) ∙ s) in
            let point = point_once p1.0 p2.0 p1.1 p2.1 p1.3 p2.3 (sym p1.4 ∙ (ap old_place same ∙ p2.4)) in
            let n = same_Some p1.2 p2.2 (sym p1.5 ∙ (ap (λ (z : Point). z.word) point ∙ p2.5)) in
            same_Some w v (sym p1.6 ∙ (ap (slice_get f.words) n ∙ p2.6))
