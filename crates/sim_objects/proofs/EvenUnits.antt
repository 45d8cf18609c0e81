-- The units of a pair begin and end at even offsets.
use Rattle.std.specs.Prelude.{◌≡◌, ◌<◌, ℕ, zero, suc, ◌+◌, ◌%◌, ◌==◌, Bool, true, false, List, [], ◌∷◌, Option, Some, None, slice_get, Contains, refl}
use Rattle.std.specs.List.{zip}
use Rattle.std.proofs.Common.{arith, ap, sym, ◌∙◌, subst}
use Rattle.std.proofs.lemmas.Bool.{eq-eqb}
use Rattle.std.proofs.lemmas.Option.{none-some, same_Some, slice_get_within}
use Rattle.elf_model.specs.declared.objects.Section.{Section}
use Rattle.elf_model.specs.Objects.{ObjectParts, is_code}
use Rattle.elf_model.proofs.Elements.{element_at, place_of, contains_filter, filter_contains}
use Rattle.reloc_places.specs.Starts.{bytes_of}
use Rattle.flow_recover.specs.declared.flows.Point.{Point}
use Rattle.flow_recover.specs.Points.{place_of_point}
use Rattle.hardened_form.specs.Places.{UnitPlace}
use Rattle.hardened_form.specs.Items.{Item, item_of_unit, items_in}
use Rattle.hardened_form.specs.Standing.{units}
use Rattle.sim_relation.specs.Pairs.{Paired}
use Rattle.sim_relation.specs.Sequences.{PlacedStep, AreSteps, EndsWith}
use Rattle.sim_answers.proofs.PointPlaces.{further, evens, unit_of, word_of, item_of}

zip_at : {A B : Type 0} (xs : List A) (ys : List B) (k : ℕ) (x : A) (y : B) → slice_get (zip xs ys) k ≡ Some (x, y) → (slice_get xs k ≡ Some x) × (slice_get ys k ≡ Some y)
zip_at [] ys k x y e = absurd (none-some (x, y) e)
zip_at (z ∷ xs) [] k x y e = absurd (none-some (x, y) e)
zip_at (z ∷ xs) (w ∷ ys) zero x y e = let same = same_Some (z, w) (x, y) e in (ap (λ (q : _). Some (q.0)) same, ap (λ (q : _). Some (q.1)) same)
zip_at (z ∷ xs) (w ∷ ys) (suc k) x y e = zip_at xs ys k x y e

pub at_zip : {A B : Type 0} (xs : List A) (ys : List B) (k : ℕ) (x : A) (y : B) → slice_get xs k ≡ Some x → slice_get ys k ≡ Some y → slice_get (zip xs ys) k ≡ Some (x, y)
at_zip [] ys k x y e f = absurd (none-some x e)
at_zip (z ∷ xs) [] k x y e f = absurd (none-some y f)
at_zip (z ∷ xs) (w ∷ ys) zero x y e f = ap (λ (q : _). Some (q, w)) (same_Some z x e) ∙ ap (λ (q : _). Some (x, q)) (same_Some w y f)
at_zip (z ∷ xs) (w ∷ ys) (suc k) x y e f = at_zip xs ys k x y e f

steps_even : (h : ObjectParts) (j x z : ℕ) (steps : List PlacedStep) → AreSteps h j x steps z → x % 2 ≡ 0 → z % 2 ≡ 0
steps_even h j x z [] is even = ap (λ (n : ℕ). n % 2) (sym is) ∙ even
steps_even h j x z (s ∷ rest) is even =
    steps_even h j (x + s.width) z rest is.1 (ap (λ (n : ℕ). (x + n) % 2) is.0.width ∙ further (bytes_of h j) x even)

ends_even : (bytes : List ℕ) (x end : ℕ) (island : Option ℕ) → EndsWith bytes x island end → x % 2 ≡ 0 → end % 2 ≡ 0
ends_even bytes x end None is even = ap (λ (n : ℕ). n % 2) is ∙ even
ends_even bytes x end (Some w) is even = let place = is.place in let ends = is.ends in omega (arith, place, ends)

module _ (o h : ObjectParts) (F c K : ℕ) (may_skip : Point → Bool) (pair : Paired o h F c K may_skip) where
  pub unit_ends : (k : ℕ) (x : Point) (u : UnitPlace) → slice_get pair.flow.points k ≡ Some x → slice_get pair.certificate.places.units k ≡ Some u → u.start % 2 ≡ 0 → u.end % 2 ≡ 0
  unit_ends k x u point unit even =
      let s = element_at pair.certificate.sequences k (subst (λ (n : ℕ). k < n) (sym pair.count) (slice_get_within pair.flow.points k x point)) in
      let is = (pair.done k x u s.0 point unit s.1).stands in
      ends_even (bytes_of h x.section) s.0.behind u.end u.island is.island (steps_even h x.section u.start s.0.behind s.0.steps is.steps even)

  item_evenly : (it : Item) → Contains pair.form.lists.items it → it.new % 2 ≡ 0 → it.end % 2 ≡ 0
  item_evenly it listed even = go it.word refl
    where
      go : (b : Bool) → it.word ≡ b → it.end % 2 ≡ 0
      go false w =
          let u = unit_of pair.flow pair.certificate.places pair.form.lists.items pair.form.tables.lists.items it listed w in
          let k = place_of (units pair.flow pair.certificate.places) u.0 u.1 in
          let at = zip_at pair.flow.points pair.certificate.places.units k.0 u.0.0 u.0.1 k.1 in
          sym (ap (λ (q : Item). q.end % 2) u.2) ∙ unit_ends k.0 u.0.0 u.0.1 at.0 at.1 (ap (λ (q : Item). q.new % 2) u.2 ∙ even)
      go true w =
          let e = word_of pair.flow pair.certificate.places pair.form.lists.items pair.form.tables.lists.items it listed w in
          let start : e.0.1 ≡ it.new = ap (λ (q : Item). q.new) e.2 in
          let end : e.0.1 + 4 ≡ it.end = ap (λ (q : Item). q.end) e.2 in
          omega (arith, even, start, end)

  pub unit_even : (x : Point) (u : UnitPlace) (t : Section) → Contains (units pair.flow pair.certificate.places) (x, u) → slice_get h.sections x.section ≡ Some t → is_code t ≡ true → u.start % 2 ≡ 0
  unit_even x u t listed there code =
      let it = item_of_unit (place_of_point x, u) in
      let items = pair.form.lists.items in
      let here = filter_contains (λ (z : Item). z.section == x.section) items it (item_of pair.flow pair.certificate.places items pair.form.tables.lists.items x u listed) (eq-eqb x.section x.section refl) in
      evens (items_in items x.section) 0 t.size (pair.form.tiled x.section t there code).stand refl
      (λ q at. item_evenly q (contains_filter (λ (z : Item). z.section == x.section) items q at).0) it here
