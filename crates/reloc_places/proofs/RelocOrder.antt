-- Relocations rise, so that each place has one, and how far those of a section reach is known by the last of them.
use Rattle.std.proofs.Common.{◌≡◌, ◌<◌, ◌≤◌, ℕ, zero, suc, ◌+◌, Bool, true, false, cond, List, [], ◌∷◌, ◌++◌, length, take, refl, sym, ap, ◌∙◌, subst, inl, inr, arith, Some, None}
use Rattle.std.specs.Prelude.{slice_get, ◌==◌, nat_lt, ◌&&◌, max}
use Rattle.std.specs.List.{list_all, position_from}
use Rattle.std.specs.Option.{option_or}
use Rattle.std.proofs.lemmas.Bool.{and_parts, or_cases, eqb-true, eqb-false, eq-eqb, ne_eqb, ltb-true, cond-true, cond-false}
use Rattle.std.proofs.lemmas.Option.{none-some, same_Some, slice_get_within, get_or_from_slice_get}
use Rattle.std.proofs.lemmas.List.{take_more}
use Rattle.elf_model.specs.declared.objects.Reloc.{Reloc}
use Rattle.elf_model.specs.Objects.{is_below, rise, place_width}
use Rattle.reloc_places.specs.declared.relocations.Reach.{Reach}
use Rattle.reloc_places.specs.Placement.{reach_in, end_in, reach_with}
use Rattle.elf_model.proofs.Elements.{all_at}

-- of two relocations the later one stands above
pub rise_at : (xs : List Reloc) → rise xs ≡ true → (i k : ℕ) (q r : Reloc) → i < k → slice_get xs i ≡ Some q → slice_get xs k ≡ Some r → is_below q r ≡ true
rise_at [] h i k q r l a b = absurd (none-some r b)
rise_at (x ∷ xs) h zero zero q r l a b = absurd (omega arith)
rise_at (x ∷ xs) h zero (suc k) q r l a b =
    let p = and_parts (list_all (is_below x) xs) (rise xs) h in
    ap (λ (t : Reloc). is_below t r) (sym (same_Some x q a)) ∙ all_at (is_below x) xs k r p.0 b
rise_at (x ∷ xs) h (suc i) zero q r l a b = absurd (omega arith)
rise_at (x ∷ xs) h (suc i) (suc k) q r l a b = rise_at xs (and_parts (list_all (is_below x) xs) (rise xs) h).1 i k q r (omega (arith, l)) a b

-- one that stands above has a section that is not lower, and another place
pub below_section : (q r : Reloc) → is_below q r ≡ true → q.section ≤ r.section
below_section q r h =
    elim (or_cases (nat_lt q.section r.section) ((q.section == r.section) && nat_lt q.offset r.offset) h) [
      | inl y ↦ omega (arith, ltb-true q.section r.section y)
      | inr y ↦ omega (arith, eqb-true q.section r.section (and_parts (q.section == r.section) (nat_lt q.offset r.offset) y).0)
    ]

pub below_apart : (q r : Reloc) → is_below q r ≡ true → ((q.section == r.section) && (q.offset == r.offset)) ≡ true → ⊥
below_apart q r h e =
    let p = and_parts (q.section == r.section) (q.offset == r.offset) e in
    let s = eqb-true q.section r.section p.0 in
    let x = eqb-true q.offset r.offset p.1 in
    elim (or_cases (nat_lt q.section r.section) ((q.section == r.section) && nat_lt q.offset r.offset) h) [
      | inl y ↦ omega (arith, ltb-true q.section r.section y)
      | inr y ↦ omega (arith, ltb-true q.offset r.offset (and_parts (q.section == r.section) (nat_lt q.offset r.offset) y).1)
    ]

-- the elements of a list's first part
pub take_at : {X : Type 0} (xs : List X) (n i : ℕ) (x : X) → slice_get (take n xs) i ≡ Some x → (i < n) × (slice_get xs i ≡ Some x)
take_at xs zero i x e = absurd (none-some x e)
take_at [] (suc n) i x e = absurd (none-some x e)
take_at (y ∷ xs) (suc n) zero x e = (omega arith, e)
take_at (y ∷ xs) (suc n) (suc i) x e = let t = take_at xs n i x e in (omega (arith, t.0), t.1)

pub at_take : {X : Type 0} (xs : List X) (n i : ℕ) (x : X) → i < n → slice_get xs i ≡ Some x → slice_get (take n xs) i ≡ Some x
at_take xs zero i x l e = absurd (omega (arith, l))
at_take [] (suc n) i x l e = absurd (none-some x e)
at_take (y ∷ xs) (suc n) zero x l e = e
at_take (y ∷ xs) (suc n) (suc i) x l e = at_take xs n i x (omega (arith, l)) e

pub take_with : {X : Type 0} (xs : List X) (n : ℕ) (x : X) → slice_get xs n ≡ Some x → take (n + 1) xs ≡ take n xs ++ x ∷ []
take_with xs n x e =
    take_more xs n x (slice_get_within xs n x e) ∙ ap (λ (t : _). take n xs ++ t ∷ []) (get_or_from_slice_get xs n x x e)

-- how far relocations reach, with one more
pub reach_push : (j : ℕ) (xs : List Reloc) (r : Reloc) → reach_in j (xs ++ r ∷ []) ≡ cond (r.section == j) (max (r.offset + place_width r.kind) (reach_in j xs)) (reach_in j xs)
reach_push j [] r = refl
reach_push j (x ∷ xs) r = go (x.section == j) (r.section == j) (reach_in j xs) (reach_in j (xs ++ r ∷ [])) (reach_push j xs r)
  where
    go : (a b : Bool) (m n : ℕ) → n ≡ cond b (max (r.offset + place_width r.kind) m) m
        → cond a (max (x.offset + place_width x.kind) n) n ≡ cond b (max (r.offset + place_width r.kind) (cond a (max (x.offset + place_width x.kind) m) m)) (cond a (max (x.offset + place_width x.kind) m) m)
    go true true m n e = omega (arith, e)
    go true false m n e = omega (arith, e)
    go false true m n e = omega (arith, e)
    go false false m n e = omega (arith, e)

-- they reach up to an offset exactly where each of them does
pub reach_under : (j : ℕ) (xs : List Reloc) (y : ℕ) → reach_in j xs ≤ y → (i : ℕ) (q : Reloc) → slice_get xs i ≡ Some q → q.section ≡ j → q.offset + place_width q.kind ≤ y
reach_under j [] y h i q at same = absurd (none-some q at)
reach_under j (x ∷ xs) y h i q at same = go (x.section == j) refl h i at (λ low k there. reach_under j xs y low k q there same)
  where
    go : (b : Bool) → (x.section == j) ≡ b → cond b (max (x.offset + place_width x.kind) (reach_in j xs)) (reach_in j xs) ≤ y → (i : ℕ) → slice_get (x ∷ xs) i ≡ Some q
        → (reach_in j xs ≤ y → (k : ℕ) → slice_get xs k ≡ Some q → q.offset + place_width q.kind ≤ y) → q.offset + place_width q.kind ≤ y
    go true e h zero at more = subst (λ (t : Reloc). t.offset + place_width t.kind ≤ y) (same_Some x q at) (omega (arith, h))
    go true e h (suc i) at more = more (omega (arith, h)) i at
    go false e h zero at more = absurd (eqb-false x.section j e (ap (λ (t : Reloc). t.section) (same_Some x q at) ∙ same))
    go false e h (suc i) at more = more h i at

pub reach_from : (j : ℕ) (xs : List Reloc) (y : ℕ) → ((i : ℕ) (q : Reloc) → slice_get xs i ≡ Some q → q.section ≡ j → q.offset + place_width q.kind ≤ y) → reach_in j xs ≤ y
reach_from j [] y each = omega arith
reach_from j (x ∷ xs) y each = go (x.section == j) refl (reach_from j xs y (λ i q at same. each (suc i) q at same))
  where
    go : (b : Bool) → (x.section == j) ≡ b → reach_in j xs ≤ y → cond b (max (x.offset + place_width x.kind) (reach_in j xs)) (reach_in j xs) ≤ y
    go true e h = let low = each zero x refl (eqb-true x.section j e) in omega (arith, low, h)
    go false e h = h

-- what the reach of the first n relocations says
pub record IsReach (xs : List Reloc) (n : ℕ) (reach : Reach) : Type 0 where
  pub same : reach.end ≡ reach_in reach.section (take n xs)
  pub above : (j : ℕ) → reach.section < j → reach_in j (take n xs) ≡ 0
  pub behind : (r : Reloc) → slice_get xs n ≡ Some r → reach.section ≤ r.section

pub no_reach : (xs : List Reloc) → IsReach xs 0 (record { section = 0; end = 0 })
no_reach xs = record { same = refl; above = λ j l. refl; behind = λ r at. omega arith }

pub reach_there : (xs : List Reloc) (n : ℕ) (reach : Reach) (r : Reloc) → IsReach xs n reach → slice_get xs n ≡ Some r → end_in reach r.section ≡ reach_in r.section (take n xs)
reach_there xs n reach r is at = go (reach.section == r.section) refl
  where
    go : (b : Bool) → (reach.section == r.section) ≡ b → cond b reach.end 0 ≡ reach_in r.section (take n xs)
    go true e = is.same ∙ ap (λ (j : ℕ). reach_in j (take n xs)) (eqb-true reach.section r.section e)
    go false e =
        let low = is.behind r at in
        let apart = eqb-false reach.section r.section e in
        sym (is.above r.section (omega (arith, low, apart)))

pub reach_more : (xs : List Reloc) (n : ℕ) (reach : Reach) (r : Reloc) → rise xs ≡ true → IsReach xs n reach → slice_get xs n ≡ Some r → IsReach xs (n + 1) (reach_with reach r)
reach_more xs n reach r up is at = record {
  same =
      ap (λ (e : ℕ). max (r.offset + place_width r.kind) e) (reach_there xs n reach r is at)
      ∙ sym (pushed r.section ∙ cond-true (r.section == r.section) (max (r.offset + place_width r.kind) (reach_in r.section (take n xs))) (reach_in r.section (take n xs)) (eq-eqb r.section r.section refl));
  above = λ j l.
      pushed j ∙ cond-false (r.section == j) (max (r.offset + place_width r.kind) (reach_in j (take n xs))) (reach_in j (take n xs)) (ne_eqb r.section j (λ e. absurd (omega (arith, l, e))))
      ∙ is.above j (let low = is.behind r at in omega (arith, l, low));
  behind = λ q next. below_section r q (rise_at xs up n (n + 1) r q (omega arith) at next);
}
  where
    pushed : (j : ℕ) → reach_in j (take (n + 1) xs) ≡ cond (r.section == j) (max (r.offset + place_width r.kind) (reach_in j (take n xs))) (reach_in j (take n xs))
    pushed j = ap (reach_in j) (take_with xs n r at) ∙ reach_push j (take n xs) r

-- the first element that passes a test, with one more element
pub position_push : {X : Type 0} (t : X → Bool) (i : ℕ) (xs : List X) (x : X) → position_from t i (xs ++ x ∷ []) ≡ option_or (position_from t i xs) (cond (t x) (Some (i + length xs)) None)
position_push t i [] x = let z : i ≡ i + 0 = omega arith in ap (λ (n : ℕ). cond (t x) (Some n) None) z
position_push t i (y ∷ xs) x = go (t y) (position_push t (i + 1) xs x)
  where
    go : (b : Bool) → position_from t (i + 1) (xs ++ x ∷ []) ≡ option_or (position_from t (i + 1) xs) (cond (t x) (Some ((i + 1) + length xs)) None) → cond b (Some i) (position_from t (i + 1) (xs ++ x ∷ [])) ≡ option_or (cond b (Some i) (position_from t (i + 1) xs)) (cond (t x) (Some (i + length (y ∷ xs))) None)
    go true more = refl
    go false more =
        let z : (i + 1) + length xs ≡ i + length (y ∷ xs) = omega arith in
        more ∙ ap (λ (n : ℕ). option_or (position_from t (i + 1) xs) (cond (t x) (Some n) None)) z

pub position_none : {X : Type 0} (t : X → Bool) (i : ℕ) (xs : List X) → ((k : ℕ) (x : X) → slice_get xs k ≡ Some x → t x ≡ false) → position_from t i xs ≡ None
position_none t i [] h = refl
position_none t i (y ∷ xs) h =
    cond-false (t y) (Some i) (position_from t (i + 1) xs) (h zero y refl) ∙ position_none t (i + 1) xs (λ k x at. h (suc k) x at)
