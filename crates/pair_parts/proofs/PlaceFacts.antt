-- Where the units of points stand in the sections of a hardened object.
use Rattle.std.proofs.Common.{◌≡◌, ◌≤◌, ◌<◌, ℕ, ◌+◌, Bool, true, false, cond, List, [], ◌∷◌, length, map, refl, sym, ap, ◌∙◌, subst, ◌⊎◌, inl, inr, arith, Some, eq-eqb}
use Rattle.std.specs.Prelude.{slice_get, slice_index, Contains, ◌==◌, nat_lt}
use Rattle.std.specs.Option.{option_map}
use Rattle.std.specs.List.{zip}
use Rattle.std.specs.declared.cmp.Ordering.TheVariants.{Less, Equal, Greater}
use Rattle.std.specs.Ordering.{nat_cmp, ordering_then}
use Rattle.std.proofs.lemmas.Bool.{both_ways, eqb-true, cases_lt, lt-ltb, ltb-true}
use Rattle.std.proofs.lemmas.Option.{slice_get-map, slice_get_within, get_or_from_slice_get}
use Rattle.std.proofs.lemmas.List.{length-map, get_or_past}
use Rattle.std.proofs.lemmas.List.Elements.{Contains-append_left, Contains-append_right, Contains-append_cases}
use Rattle.elf_model.specs.declared.objects.Section.{Section}
use Rattle.elf_model.specs.Objects.{ObjectParts, is_code}
use Rattle.elf_model.proofs.Elements.{element_at, place_of, contains_at, contains_here, contains_map, map_contains, contains_filter, filter_contains}
use Rattle.code_ranges.specs.Spans.{place_cmp}
use Rattle.code_ranges.proofs.MarkFacts.{less}
use Rattle.code_ranges.proofs.InOrder.{Rises, same_at_each, rises_keys}
use Rattle.seq_core.specs.Places.{PlacedParts, LayoutParts}
use Rattle.flow_recover.specs.declared.flows.Point.{Point}
use Rattle.flow_recover.specs.declared.flows.PoolWord.{PoolWord}
use Rattle.flow_recover.specs.Flows.{FlowParts}
use Rattle.flow_recover.specs.Points.{IsPointAt, end_of, place_of_point}
use Rattle.flow_recover.specs.WholeFlows.{place_of_word, IsFlow}
use Rattle.flow_recover.proofs.FlowPoints.{next_there}
use Rattle.flow_recover.proofs.OneFlow.{point_once_at}
use Rattle.hardened_form.specs.Places.{UnitPlace, Places}
use Rattle.hardened_form.specs.Items.{Item, item_of_unit, item_of_word, old_place, AreItems, items_in, StandFrom}
use Rattle.hardened_form.specs.Standing.{old_points, old_words}
use Rattle.hardened_form.specs.HardenedForms.{IsHardenedForm}
use Rattle.hardened_form.proofs.OneList.{items_once}
use Rattle.branch_layout.specs.Placings.{unit_point, word_point, IsPlacing}
use Rattle.branch_layout.specs.Laid.{laid_place, laid_places}
use Rattle.branch_layout.proofs.WithinFacts.{IsEven, IsBetween, map_at, zip_at, zip_parts, stands_between, item_is_even}
use Rattle.emit_object.specs.UnitCopies.{all_carriers}
use Rattle.emit_object.specs.Emitting.{unit_of, units_of, CanEmit}
use Rattle.unit_work.specs.Work.{AreSized}
use Rattle.pair_parts.proofs.PointFacts.{in_code, ends_before, some_bytes, no_word_within, same_sort}
use Rattle.pair_parts.proofs.ItemFacts.{Before, rises_filter, stands_once, one_at, next_stands}
use Rattle.pair_parts.proofs.LaidUnits.{laid}

-- places of one section by their offsets
place_less : (j k x y : ℕ) → j ≡ k → x < y → place_cmp (j, x) (k, y) ≡ Less
place_less j k x y same l =
    let first : nat_cmp j k ≡ Equal =
    ap (λ (b : Bool). cond b Less (cond (j == k) Equal Greater)) (not_less j k same) ∙ ap (λ (b : Bool). cond b Equal Greater) (eq-eqb j k same) in
    ap (λ (c : _). ordering_then c (nat_cmp x y)) first ∙ ap (λ (b : Bool). cond b Less (cond (x == y) Equal Greater)) (lt-ltb x y l)
  where
    not_less : (j k : ℕ) → j ≡ k → nat_lt j k ≡ false
    not_less j k e = go (nat_lt j k) refl
      where
        go : (b : Bool) → nat_lt j k ≡ b → b ≡ false
        go true t = absurd (omega (arith, ltb-true j k t, e))
        go false t = refl

no_items : (items : List Item) (size : ℕ) → ((it : Item) → Contains items it → ⊥) → StandFrom 0 items size → size ≡ 0
no_items [] size none stand = sym stand
no_items (i ∷ items) size none stand = absurd (none i (contains_here i items))

module _ (o h : ObjectParts) (f : FlowParts) (l : LayoutParts) (flow : IsFlow o f) (can : CanEmit o f l)
    (form : IsHardenedForm o h f (laid_places l) (all_carriers l)) where
  many : length l.units ≡ length f.points
  many = can.count

  abbrev items : List Item
  items = form.lists.items

  are : AreItems (old_points f) (old_words f) (laid_places l) form.lists.items
  are = form.tables.lists.items

  pub point_at : (k : ℕ) (u : PlacedParts) → slice_get l.units k ≡ Some u → (x : Point) × (slice_get f.points k ≡ Some x)
  point_at k u e = let low = slice_get_within l.units k u e in element_at f.points k (omega (arith, low, many))

  pub unit_at : (k : ℕ) (x : Point) → slice_get f.points k ≡ Some x → (u : PlacedParts) × (slice_get l.units k ≡ Some u)
  unit_at k x e = let low = slice_get_within f.points k x e in element_at l.units k (omega (arith, low, many))

  -- THE LAYOUT'S ITEMS ARE THOSE OF THE FORM

  points_same : map unit_point (units_of l) ≡ old_points f
  points_same =
      same_at_each (map unit_point (units_of l)) (old_points f) (length-map (units_of l) unit_point ∙ length-map l.units unit_of ∙ many ∙ sym (length-map f.points place_of_point)) each
    where
      each : (k : ℕ) (a b : ℕ × ℕ) → slice_get (map unit_point (units_of l)) k ≡ Some a → slice_get (old_points f) k ≡ Some b → a ≡ b
      each k a b e g =
          let s = map_at unit_point (units_of l) k a e in
          let u = map_at unit_of l.units k s.0 s.1 in
          let x = map_at place_of_point f.points k b g in
          let is = can.each k x.0 u.0 x.1 u.1 in
          sym s.2 ∙ ap unit_point (sym u.2) ∙ ap (λ (n : ℕ). (n, u.0.unit.old)) is.section ∙ ap (λ (n : ℕ). (x.0.section, n)) is.old ∙ x.2

  abbrev placed : IsPlacing (units_of l) f.words can.layout.placing
  placed = can.layout.places.placed

  same_items : can.layout.places.placed.items ≡ form.lists.items
  same_items =
      items_once (old_points f) (old_words f) (laid_places l) can.layout.places.placed.items form.lists.items
      (subst (λ (ps : List (ℕ × ℕ)). AreItems ps (old_words f) (laid_places l) can.layout.places.placed.items) points_same
      (subst (λ (q : Places). AreItems (map unit_point (units_of l)) (map word_point f.words) q can.layout.places.placed.items) (sym (laid o f l can).places) can.layout.places.placed.of)) are

  even_items : (it : Item) → Contains items it → IsEven it
  even_items it c = item_is_even (units_of l) f.words can.layout.placing placed it (subst (λ (xs : List Item). Contains xs it) (sym same_items) c)

  even_in : (j : ℕ) (it : Item) → Contains (items_in items j) it → IsEven it
  even_in j it c = even_items it (contains_filter (λ (i : Item). i.section == j) items it c).0

  rises : (j : ℕ) → Rises Before (items_in items j)
  rises j = rises_filter Before (λ (i : Item). i.section == j) items (rises_keys old_place place_cmp items are.rise)

  -- SECTIONS

  pub sized : AreSized h l
  sized j t there code =
      elim (cases_lt j (length can.layout.placing.sizes)) [
        | inl low ↦
            let size = element_at can.layout.placing.sizes j low in
            let stand = subst (λ (xs : List Item). StandFrom 0 (items_in xs j) size.0) same_items (placed.stand j size.0 size.1) in
            stands_once (items_in items j) 0 t.size size.0 (form.tiled j t there code).stand stand
            ∙ sym (ap (λ (ns : List ℕ). slice_index ns j) can.layout.sizes ∙ get_or_from_slice_get can.layout.placing.sizes j size.0 0 size.1)
        | inr past ↦
            no_items (items_in items j) t.size
            (λ it c. let parts = contains_filter (λ (i : Item). i.section == j) items it c in
            let within = placed.sections.within it (subst (λ (xs : List Item). Contains xs it) (sym same_items) parts.0) in
            let same : it.section ≡ j = eqb-true it.section j parts.1 in
            absurd (omega arith)) (form.tiled j t there code).stand
            ∙ sym (ap (λ (ns : List ℕ). slice_index ns j) can.layout.sizes ∙ get_or_past can.layout.placing.sizes j 0 past)
      ]

  -- the section of a point, now
  pub code_section : (k : ℕ) (x : Point) → slice_get f.points k ≡ Some x → (t : Section) × (slice_get h.sections x.section ≡ Some t) × (is_code t ≡ true)
  code_section k x e =
      let s = in_code o f flow k x e in
      let low = slice_get_within o.sections x.section s.0 s.1 in
      let count = form.tables.sections.count in
      let t = element_at h.sections x.section (omega (arith, low, count)) in
      (t.0, t.1, same_sort o x.section s.0 t.0 (form.tables.sections.each x.section s.0 t.0 s.1 t.1) ∙ s.2)

  -- UNITS AND WORDS

  pub data Origin (it : Item) : Type 0 where
    of_unit : (k : ℕ) (x : Point) (u : PlacedParts) → slice_get f.points k ≡ Some x → slice_get l.units k ≡ Some u → item_of_unit (place_of_point x, laid_place u) ≡ it → Origin it
    of_word : (k : ℕ) (w : PoolWord) (at : ℕ) → slice_get f.words k ≡ Some w → slice_get l.words k ≡ Some at → item_of_word (place_of_word w, at) ≡ it → Origin it

  abbrev unit_items : List Item
  unit_items = map item_of_unit (zip (old_points f) (map laid_place l.units))

  abbrev word_items : List Item
  word_items = map item_of_word (zip (old_words f) l.words)

  origin : (it : Item) → Contains items it → Origin it
  origin it c = elim (Contains-append_cases unit_items word_items it ((are.same it).0 c)) [
    | inl left ↦
        let from = contains_map item_of_unit (zip (old_points f) (map laid_place l.units)) it left in
        let z : (ℕ × ℕ) × UnitPlace = from.0 in
        let at = place_of (zip (old_points f) (map laid_place l.units)) z from.1 in
        let parts = zip_parts (old_points f) (map laid_place l.units) at.0 z at.1 in
        let x = map_at place_of_point f.points at.0 z.0 parts.0 in
        let u = map_at laid_place l.units at.0 z.1 parts.1 in
        of_unit at.0 x.0 u.0 x.1 u.1 (ap (λ (p : ℕ × ℕ). item_of_unit (p, laid_place u.0)) x.2 ∙ ap (λ (p : UnitPlace). item_of_unit (z.0, p)) u.2 ∙ from.2)
    | inr right ↦
        let from = contains_map item_of_word (zip (old_words f) l.words) it right in
        let z : (ℕ × ℕ) × ℕ = from.0 in
        let at = place_of (zip (old_words f) l.words) z from.1 in
        let parts = zip_parts (old_words f) l.words at.0 z at.1 in
        let w = map_at place_of_word f.words at.0 z.0 parts.0 in
        of_word at.0 w.0 z.1 w.1 parts.1 (ap (λ (p : ℕ × ℕ). item_of_word (p, z.1)) w.2 ∙ from.2)
  ]

  unit_listed : (k : ℕ) (x : Point) (u : PlacedParts) → slice_get f.points k ≡ Some x → slice_get l.units k ≡ Some u → Contains (items_in items x.section) (item_of_unit (place_of_point x, laid_place u))
  unit_listed k x u e g =
      let it : Item = item_of_unit (place_of_point x, laid_place u) in
      let point = slice_get-map place_of_point f.points k ∙ ap (option_map place_of_point) e in
      let place = slice_get-map laid_place l.units k ∙ ap (option_map laid_place) g in
      let zipped = contains_at (zip (old_points f) (map laid_place l.units)) k (place_of_point x, laid_place u) (zip_at (old_points f) (map laid_place l.units) k (place_of_point x) (laid_place u) point place) in
      let among = (are.same it).1 (Contains-append_left unit_items word_items it (map_contains item_of_unit (zip (old_points f) (map laid_place l.units)) (place_of_point x, laid_place u) zipped)) in
      filter_contains (λ (i : Item). i.section == x.section) items it among (eq-eqb x.section x.section refl)

  word_listed : (j k : ℕ) (w : PoolWord) (at : ℕ) → slice_get f.words k ≡ Some w → slice_get l.words k ≡ Some at → w.section ≡ j → Contains (items_in items j) (item_of_word (place_of_word w, at))
  word_listed j k w at e g same =
      let it : Item = item_of_word (place_of_word w, at) in
      let point = slice_get-map place_of_word f.words k ∙ ap (option_map place_of_word) e in
      let zipped = contains_at (zip (old_words f) l.words) k (place_of_word w, at) (zip_at (old_words f) l.words k (place_of_word w) at point g) in
      let among = (are.same it).1 (Contains-append_right unit_items word_items it (map_contains item_of_word (zip (old_words f) l.words) (place_of_word w, at) zipped)) in
      filter_contains (λ (i : Item). i.section == j) items it among (eq-eqb w.section j same)

  pub between : (k : ℕ) (x : Point) (u : PlacedParts) (t : Section) → slice_get f.points k ≡ Some x → slice_get l.units k ≡ Some u → slice_get h.sections x.section ≡ Some t → is_code t ≡ true
      → IsBetween 0 t.size (item_of_unit (place_of_point x, laid_place u))
  between k x u t e g there code =
      stands_between 0 (items_in items x.section) t.size (even_in x.section) (form.tiled x.section t there code).stand refl (item_of_unit (place_of_point x, laid_place u)) (unit_listed k x u e g)

  -- No two units have an offset in common.
  pub one_unit : (k n : ℕ) (x y : Point) (u v : PlacedParts) → slice_get f.points k ≡ Some x → slice_get l.units k ≡ Some u → slice_get f.points n ≡ Some y → slice_get l.units n ≡ Some v → y.section ≡ x.section
      → (at : ℕ) → u.start ≤ at → at < u.start + u.length → v.start ≤ at → at < v.start + v.length → k ≡ n
  one_unit k n x y u v e g d b same at la ha lb hb =
      let a : Item = item_of_unit (place_of_point x, laid_place u) in
      let c : Item = item_of_unit (place_of_point y, laid_place v) in
      let t = code_section k x e in
      let listed = subst (λ (j : ℕ). Contains (items_in items j) c) same (unit_listed n y v d b) in
      let one : a ≡ c = one_at 0 (items_in items x.section) t.0.size (even_in x.section) (form.tiled x.section t.0 t.1 t.2).stand refl a c (unit_listed k x u e g) listed at la ha lb hb in
      point_once_at o f flow k n x y e d (sym same) (ap (λ (i : Item). i.old) one)

  -- No unit has a byte of a word.
  pub no_word_in : (k n : ℕ) (x : Point) (u : PlacedParts) (w : PoolWord) (at : ℕ) → slice_get f.points k ≡ Some x → slice_get l.units k ≡ Some u → slice_get f.words n ≡ Some w → slice_get l.words n ≡ Some at → w.section ≡ x.section
      → u.start ≤ at → at < u.start + u.length → ⊥
  no_word_in k n x u w at e g d b same low high =
      let a : Item = item_of_unit (place_of_point x, laid_place u) in
      let c : Item = item_of_word (place_of_word w, at) in
      let t = code_section k x e in
      let one : a ≡ c = one_at 0 (items_in items x.section) t.0.size (even_in x.section) (form.tiled x.section t.0 t.1 t.2).stand refl a c (unit_listed k x u e g) (word_listed x.section n w at d b same) at low high (omega arith) (omega arith) in
      both_ways false refl (ap (λ (i : Item). i.word) one)

  -- The unit of the point behind stands where a unit ends.
  pub next_begins : (k q : ℕ) (x : Point) (u v : PlacedParts) → slice_get f.points k ≡ Some x → slice_get l.units k ≡ Some u → x.next ≡ Some q → slice_get l.units q ≡ Some v → u.start + u.length ≡ v.start
  next_begins k q x u v e g leads b =
      let y = next_there o f flow k x e q leads in
      let a : Item = item_of_unit (place_of_point x, laid_place u) in
      let c : Item = item_of_unit (place_of_point y.point, laid_place v) in
      let t = code_section k x e in
      let some = some_bytes o f flow k x e in
      let offset = y.offset in
      let less_is : Before a c = place_less x.section y.point.section x.offset y.point.offset (sym y.section) (omega arith) in
      let listed = subst (λ (j : ℕ). Contains (items_in items j) c) y.section (unit_listed q y.point v y.there b) in
      sym (next_stands (items_in items x.section) 0 t.0.size a c (rises x.section) (form.tiled x.section t.0 t.1 t.2).stand (unit_listed k x u e g) listed less_is (λ z c above below. none z c above y below))
    where
      in_order : (j m p n : ℕ) → (j < m) ⊎ ((j ≡ m) × (p < n)) → m ≡ j → p < n
      in_order j m p n (inl low) same = absurd (omega arith)
      in_order j m p n (inr both) same = both.1

      none : (z : Item) → Contains (items_in items x.section) z → Before (item_of_unit (place_of_point x, laid_place u)) z → (y : IsPointAt f x.section (end_of x) q)
          → Before z (item_of_unit (place_of_point y.point, laid_place v)) → ⊥
      none z c above y below = go (origin z parts.0)
        where
          parts : Contains items z × ((z.section == x.section) ≡ true)
          parts = contains_filter (λ (i : Item). i.section == x.section) items z c

          section : z.section ≡ x.section
          section = eqb-true z.section x.section parts.1

          low : x.offset < z.old
          low = in_order x.section z.section x.offset z.old (less (place_of_point x) (old_place z) above) section

          high : z.old < end_of x
          high = let l = in_order z.section y.point.section z.old y.point.offset (less (old_place z) (place_of_point y.point) below) (y.section ∙ sym section) in omega (arith, l, y.offset)

          go : Origin z → ⊥
          go (of_unit n p i there unit is) =
              let same : x.section ≡ p.section = sym (ap (λ (it : Item). it.section) is ∙ section) in
              let old : p.offset ≡ z.old = ap (λ (it : Item). it.old) is in
              let before = ends_before o f flow k n x p e there same (omega (arith, old, low)) in
              omega (arith, before, old, high)
          go (of_word n w at there word is) =
              let same : w.section ≡ x.section = ap (λ (it : Item). it.section) is ∙ section in
              let old : w.offset ≡ z.old = ap (λ (it : Item). it.old) is in
              no_word_within o f flow k x w e (contains_at f.words n w there) same (omega (arith, old, low)) (omega (arith, old, high))
