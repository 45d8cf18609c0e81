-- The place of a point's unit among the items.
use Rattle.std.proofs.Common.{◌≡◌, ℕ, zero, suc, true, List, [], ◌∷◌, map, refl, sym, ap, ◌∙◌, subst, inl, inr, Option, Some, None}
use Rattle.std.specs.Prelude.{Contains, slice_get, ◌==◌, ◌&&◌, not, find}
use Rattle.std.specs.List.{zip}
use Rattle.std.proofs.lemmas.Bool.{true≢false, and_parts, and_from, eqb-true, eq-eqb}
use Rattle.std.proofs.lemmas.List.Elements.{Contains-append_left, Contains-append_cases}
use Rattle.std.proofs.lemmas.Option.{none-some, same_Some}
use Rattle.elf_model.proofs.Elements.{contains_cases, contains_here, contains_later, contains_none, contains_map, map_contains, found, finds}
use Rattle.flow_recover.specs.declared.flows.Point.{Point}
use Rattle.flow_recover.specs.Flows.{FlowParts}
use Rattle.flow_recover.specs.Points.{IsPointAt, place_of_point, PointsRise}
use Rattle.flow_recover.proofs.OneFlow.{index_once}
use Rattle.seq_core.specs.Places.{PlacedParts, LayoutParts}
use Rattle.hardened_form.specs.Places.{UnitPlace}
use Rattle.hardened_form.specs.Items.{Item, item_of_unit, item_of_word, AreItems}
use Rattle.hardened_form.specs.Standing.{old_points, old_words, new_of, is_unit_of, new_place}
use Rattle.branch_layout.specs.Laid.{laid_place as unit_place, laid_places as places_of}

-- pairs by their numbers
module _ {X Y : Type 0} where
  pub zip_index : (xs : List X) (ys : List Y) (e : X × Y) → Contains (zip xs ys) e → (k : ℕ) × ((slice_get xs k ≡ Some e.0) × (slice_get ys k ≡ Some e.1))
  zip_index [] ys e h = absurd (contains_none e h)
  zip_index (x ∷ xs) [] e h = absurd (contains_none e h)
  zip_index (x ∷ xs) (y ∷ ys) e h = elim (contains_cases (x, y) (zip xs ys) e h) [
    | inl same ↦ (0, (ap (λ (p : X × Y). Some p.0) same, ap (λ (p : X × Y). Some p.1) same))
    | inr m ↦ let q = zip_index xs ys e m in (suc q.0, (q.1.0, q.1.1))
  ]

  pub index_zip : (xs : List X) (ys : List Y) (k : ℕ) (x : X) (y : Y) → slice_get xs k ≡ Some x → slice_get ys k ≡ Some y → Contains (zip xs ys) (x, y)
  index_zip [] ys k x y a b = absurd (none-some x a)
  index_zip (v ∷ xs) [] k x y a b = absurd (none-some y b)
  index_zip (v ∷ xs) (w ∷ ys) zero x y a b =
      subst (λ (p : X × Y). Contains (zip (v ∷ xs) (w ∷ ys)) p) (λ i. (same_Some v x a i, same_Some w y b i)) (contains_here (v, w) (zip xs ys))
  index_zip (v ∷ xs) (w ∷ ys) (suc k) x y a b = contains_later (v, w) (zip xs ys) (x, y) (index_zip xs ys k x y a b)

  pub map_at : (g : X → Y) (xs : List X) (k : ℕ) (x : X) → slice_get xs k ≡ Some x → slice_get (map g xs) k ≡ Some (g x)
  map_at g [] k x a = absurd (none-some x a)
  map_at g (v ∷ xs) zero x a = ap (λ (z : X). Some (g z)) (same_Some v x a)
  map_at g (v ∷ xs) (suc k) x a = map_at g xs k x a

  pub at_map : (g : X → Y) (xs : List X) (k : ℕ) (y : Y) → slice_get (map g xs) k ≡ Some y → (x : X) × ((slice_get xs k ≡ Some x) × (g x ≡ y))
  at_map g [] k y a = absurd (none-some y a)
  at_map g (v ∷ xs) zero y a = (v, (refl, same_Some (g v) y a))
  at_map g (v ∷ xs) (suc k) y a = at_map g xs k y a

module _ (f : FlowParts) (l : LayoutParts) (j x : ℕ) (items : List Item) (are : AreItems (old_points f) (old_words f) (places_of l) items) where
  abbrev us : List UnitPlace
  us = map unit_place l.units

  -- an item of a unit at this place is of a point there
  pub record UnitAt (it : Item) : Type 0 where
    pub index : ℕ
    pub point : Point
    pub there : slice_get f.points index ≡ Some point
    pub section : point.section ≡ j
    pub offset : point.offset ≡ x
    pub unit : PlacedParts
    pub laid : slice_get l.units index ≡ Some unit
    pub new : it.new ≡ unit.start

  pub unit_at : (it : Item) → Contains items it → is_unit_of j x it ≡ true → UnitAt it
  unit_at it here is = elim (Contains-append_cases (map item_of_unit (zip (old_points f) us)) (map item_of_word (zip (old_words f) l.words)) it ((are.same it).0 here)) [
    | inl a ↦
        let e = contains_map item_of_unit (zip (old_points f) us) it a in
        let k = zip_index (old_points f) us e.0 e.1 in
        let p = at_map place_of_point f.points k.0 e.0.0 k.1.0 in
        let u = at_map unit_place l.units k.0 e.0.1 k.1.1 in
        let at = and_parts (it.section == j) (it.old == x) (and_parts (not it.word) ((it.section == j) && (it.old == x)) is).1 in
        record {
          index = k.0;
          point = p.0;
          there = p.1.0;
          section = ap (λ (q : ℕ × ℕ). q.0) p.1.1 ∙ ap (λ (z : Item). z.section) e.2 ∙ eqb-true it.section j at.0;
          offset = ap (λ (q : ℕ × ℕ). q.1) p.1.1 ∙ ap (λ (z : Item). z.old) e.2 ∙ eqb-true it.old x at.1;
          unit = u.0;
          laid = u.1.0;
          new = sym (ap (λ (z : Item). z.new) e.2) ∙ sym (ap (λ (z : UnitPlace). z.start) u.1.1);
        }
    | inr b ↦
        let e = contains_map item_of_word (zip (old_words f) l.words) it b in
        let word : it.word ≡ true = sym (ap (λ (z : Item). z.word) e.2) in
        absurd (true≢false (sym (and_parts (not it.word) ((it.section == j) && (it.old == x)) is).0 ∙ ap not word))
  ]

  pub is_place : PointsRise f → (q : ℕ) (u : PlacedParts) → IsPointAt f j x q → slice_get l.units q ≡ Some u → Some u.start ≡ new_place items j x
  is_place rise q u p at =
      let old : slice_get (old_points f) q ≡ Some (j, x) = map_at place_of_point f.points q p.point p.there ∙ (λ i. Some (p.section i, p.offset i)) in
      let it : Item = item_of_unit ((j, x), unit_place u) in
      let pair = index_zip (old_points f) us q (j, x) (unit_place u) old (map_at unit_place l.units q u at) in
      let here : Contains items it = (are.same it).1 (Contains-append_left (map item_of_unit (zip (old_points f) us)) (map item_of_word (zip (old_words f) l.words)) it (map_contains item_of_unit (zip (old_points f) us) ((j, x), unit_place u) pair)) in
      let first = finds (is_unit_of j x) items it here (and_from (j == j) (x == x) (eq-eqb j j refl) (eq-eqb x x refl)) in
      let good = found (is_unit_of j x) items first.0 first.1 in
      let a = unit_at first.0 good.0 good.1 in
      let same : q ≡ a.index = index_once place_of_point f.points q a.index p.point a.point rise.order p.there a.there (λ i. ((p.section ∙ sym a.section) i, (p.offset ∙ sym a.offset) i)) in
      let unit : u ≡ a.unit = same_Some u a.unit (sym at ∙ ap (slice_get l.units) same ∙ a.laid) in
      ap (λ (z : PlacedParts). Some z.start) unit ∙ ap (λ (n : ℕ). Some n) (sym a.new) ∙ sym (ap new_of first.1)

  pub no_place : ((q : ℕ) → IsPointAt f j x q → ⊥) → None ≡ new_place items j x
  no_place none = go (find (is_unit_of j x) items) refl
    where
      go : (o : Option Item) → find (is_unit_of j x) items ≡ o → None ≡ new_of o
      go None e = refl
      go (Some it) e =
          let good = found (is_unit_of j x) items it e in
          let a = unit_at it good.0 good.1 in
          absurd (none a.index (record { point = a.point; there = a.there; section = a.section; offset = a.offset }))
