-- Plans that are drawn, step by step.
use Rattle.std.proofs.Common.{◌≡◌, ◌≢◌, ◌⊎◌, inl, inr, ℕ, zero, suc, ◌+◌, ◌-◌, ◌/◌, ◌%◌, ◌^◌, ◌<◌, ◌≤◌, ◌==◌, ◌&&◌, ◌||◌, Bool, true, false, List, [], ◌∷◌, ◌++◌, length, get_or, refl, sym, ap, ◌∙◌, arith, eq-eqb}
use Rattle.std.specs.Prelude.{◌↔◌}
use Rattle.std.specs.List.Sorted.{IsStrictlyIncreasing}
use Rattle.std.proofs.lemmas.Bool.{false≢true, eqb-true, cases_lt}
use Rattle.std.proofs.lemmas.List.{length-append, get_or_append_left}
use Rattle.mark_word.specs.Formulas.{bit}
use Rattle.thumb_table.specs.Schedules.{is_in, IsLegal}
use Rattle.skip_machine.specs.Draws.{draws, skipped_before, IsDrawn}
use Rattle.skip_machine.proofs.Members.{in_at}

in_last : (xs : List ℕ) (x : ℕ) → is_in (xs ++ x ∷ []) x ≡ true
in_last [] x = rw (eq-eqb x x refl) refl
in_last (y ∷ ys) x = elim (y == x) as (λ t. (t || is_in (ys ++ x ∷ []) x) ≡ true) [ true ↦ refl | false ↦ in_last ys x ]

-- one more number makes no difference for others
in_others : (xs : List ℕ) (x i : ℕ) → x ≢ i → is_in (xs ++ x ∷ []) i ≡ is_in xs i
in_others [] x i apart = go (x == i) refl
  where
    go : (t : Bool) → (x == i) ≡ t → (t || false) ≡ false
    go false e = refl
    go true e = absurd (apart (eqb-true x i e))
in_others (y ∷ ys) x i apart = ap (λ t. (y == i) || t) (in_others ys x i apart)

before_others : (xs : List ℕ) (x c i : ℕ) → i ≤ x → skipped_before (xs ++ x ∷ []) c i ≡ skipped_before xs c i
before_others xs x zero i le = refl
before_others xs x (suc c) zero le = refl
before_others xs x (suc c) (suc i) le =
    let apart : x ≢ i = λ e. absurd (omega (arith, e)) in
    rw (in_others xs x i apart, before_others xs x c i (omega arith)) refl

-- so many steps before step i are skipped, and no more, or as many as may be
pub record HasRow (copies : ℕ) (skips : List ℕ) (row i : ℕ) : Type 0 where
  pub few : row ≤ copies - 1
  pub all : skipped_before skips row i ≡ true
  pub no_more : (row ≡ copies - 1) ⊎ (skipped_before skips (suc row) i ≡ false)

-- more than are skipped aren't
before_more : (xs : List ℕ) (c d i : ℕ) → c ≤ d → skipped_before xs c i ≡ false → skipped_before xs d i ≡ false
before_more xs zero d i le e = absurd (false≢true (sym e))
before_more xs (suc c) zero i le e = absurd (omega arith)
before_more xs (suc c) (suc d) zero le e = refl
before_more xs (suc c) (suc d) (suc i) le e = go (before_more xs c d i (omega arith)) (is_in xs i) refl
  where
    go : (skipped_before xs c i ≡ false → skipped_before xs d i ≡ false) → (t : Bool) → is_in xs i ≡ t → (is_in xs i && skipped_before xs d i) ≡ false
    go later false s = rw s refl
    go later true s = rw s (later (rw s at e))

pub row_tells : (copies : ℕ) (xs : List ℕ) (row i : ℕ) → HasRow copies xs row i → row < copies - 1 → skipped_before xs (copies - 1) i ≡ false
row_tells copies xs row i h lt = elim h.no_more [ inl e ↦ absurd (omega (arith, e)) | inr e ↦ before_more xs (suc row) (copies - 1) i (omega arith) e ]

pub row_full : (copies : ℕ) (xs : List ℕ) (row i : ℕ) → HasRow copies xs row i → copies - 1 ≤ row → skipped_before xs (copies - 1) i ≡ true
row_full copies xs row i h le =
    let few = h.few in
    let e : row ≡ copies - 1 = omega arith in
    rw e at h.all

pub row_first : (copies : ℕ) → 2 ≤ copies → HasRow copies [] 0 0
row_first copies two = record { few = omega arith; all = refl; no_more = inr refl }

below : (seed i copies : ℕ) (xs : List ℕ) → IsDrawn seed i copies xs → (k : ℕ) → i ≤ k → is_in xs k ≡ false
below seed i copies xs h k le = go (is_in xs k) refl
  where
    go : (t : Bool) → is_in xs k ≡ t → is_in xs k ≡ false
    go false e = e
    go true e = let lt = ((h.drawn k).0 e).0 in absurd (omega arith)

pub row_grows : (seed copies : ℕ) (xs : List ℕ) (row i : ℕ) → HasRow copies xs row i → row < copies - 1 → HasRow copies (xs ++ i ∷ []) (row + 1) (i + 1)
row_grows seed copies xs row i h lt =
    let r : row + 1 ≡ suc row = omega arith in
    let n : i + 1 ≡ suc i = omega arith in
    rw (r, n) (record {
      few = omega arith;
      all = rw (in_last xs i, before_others xs i row i (omega arith)) h.all;
      no_more = elim h.no_more [ inl e ↦ absurd (omega (arith, e)) | inr e ↦ inr (rw (in_last xs i, before_others xs i (suc row) i (omega arith)) e) ];
    })

pub row_ends : (seed copies : ℕ) (xs : List ℕ) (i : ℕ) → IsDrawn seed i copies xs → HasRow copies xs 0 (i + 1)
row_ends seed copies xs i h =
    let n : i + 1 ≡ suc i = omega arith in
    rw n (record { few = omega arith; all = refl; no_more = inr (rw (below seed i copies xs h i (omega arith)) refl) })

pub drawn_first : (seed copies : ℕ) → IsDrawn seed 0 copies []
drawn_first seed copies = record {
  rises = λ k lt. absurd (omega arith);
  drawn = λ i. (λ e. absurd (false≢true e), λ w. let lt = w.0 in absurd (omega arith));
}

rises_on : (xs : List ℕ) (x : ℕ) → IsStrictlyIncreasing xs → ((k : ℕ) → is_in xs k ≡ true → k < x) → IsStrictlyIncreasing (xs ++ x ∷ [])
rises_on xs x h lt k inside =
    let long = length-append xs (x ∷ []) in
    elim (cases_lt (k + 1) (length xs)) [
      | inl l ↦
          let a : get_or (xs ++ x ∷ []) k 0 ≡ get_or xs k 0 = get_or_append_left xs (x ∷ []) 0 k (omega arith) in
          let b : get_or (xs ++ x ∷ []) (k + 1) 0 ≡ get_or xs (k + 1) 0 = get_or_append_left xs (x ∷ []) 0 (k + 1) l in
          let less = h k l in
          omega (arith, a, b, less)
      | inr l ↦
          let last : k + 1 ≡ length xs = omega arith in
          let a : get_or (xs ++ x ∷ []) k 0 ≡ get_or xs k 0 = get_or_append_left xs (x ∷ []) 0 k (omega arith) in
          let b : get_or (xs ++ x ∷ []) (k + 1) 0 ≡ x = ap (λ (n : ℕ). get_or (xs ++ x ∷ []) n 0) last ∙ seam xs in
          let less = lt (get_or xs k 0) (in_at xs k (get_or xs k 0) (omega arith) refl) in
          omega (arith, a, b, less)
    ]
  where
    seam : (zs : List ℕ) → get_or (zs ++ x ∷ []) (length zs) 0 ≡ x
    seam [] = refl
    seam (z ∷ zs) = seam zs

-- a step that is skipped
pub drawn_more : (seed copies : ℕ) (xs : List ℕ) (i : ℕ) → IsDrawn seed i copies xs → bit (draws seed (suc i)) 31 ≡ true → skipped_before xs (copies - 1) i ≡ false
    → IsDrawn seed (i + 1) copies (xs ++ i ∷ [])
drawn_more seed copies xs i h set free = record {
  rises = rises_on xs i h.rises (λ k e. ((h.drawn k).0 e).0);
  drawn = told;
}
  where
    at_last : (k : ℕ) → k ≡ i → (is_in (xs ++ i ∷ []) k ≡ true) ↔ ((k < i + 1) × (bit (draws seed (suc k)) 31 ≡ true) × (skipped_before (xs ++ i ∷ []) (copies - 1) k ≡ false))
    at_last k e = rw e (λ s. (omega arith, set, before_others xs i (copies - 1) i (omega arith) ∙ free), λ w. in_last xs i)

    at_others : (k : ℕ) → i ≢ k → (is_in (xs ++ i ∷ []) k ≡ true) ↔ ((k < i + 1) × (bit (draws seed (suc k)) 31 ≡ true) × (skipped_before (xs ++ i ∷ []) (copies - 1) k ≡ false))
    at_others k apart = (
      λ s. let w = (h.drawn k).0 (sym (in_others xs i k apart) ∙ s) in let lt = w.0 in (omega arith, w.1, before_others xs i (copies - 1) k (omega arith) ∙ w.2),
      λ w. let lt = w.0 in let lt' : k < i = omega (arith, apart) in in_others xs i k apart ∙ (h.drawn k).1 (lt', w.1, sym (before_others xs i (copies - 1) k (omega arith)) ∙ w.2),
    )

    told : (k : ℕ) → (is_in (xs ++ i ∷ []) k ≡ true) ↔ ((k < i + 1) × (bit (draws seed (suc k)) 31 ≡ true) × (skipped_before (xs ++ i ∷ []) (copies - 1) k ≡ false))
    told k = go (i == k) refl
      where
        go : (t : Bool) → (i == k) ≡ t → (is_in (xs ++ i ∷ []) k ≡ true) ↔ ((k < i + 1) × (bit (draws seed (suc k)) 31 ≡ true) × (skipped_before (xs ++ i ∷ []) (copies - 1) k ≡ false))
        go true e = at_last k (sym (eqb-true i k e))
        go false e = at_others k (λ same. absurd (false≢true (sym e ∙ eq-eqb i k same)))

-- a step that isn't
pub drawn_on : (seed copies : ℕ) (xs : List ℕ) (i : ℕ) → IsDrawn seed i copies xs → (bit (draws seed (suc i)) 31 ≡ true → skipped_before xs (copies - 1) i ≡ true) → IsDrawn seed (i + 1) copies xs
drawn_on seed copies xs i h kept = record {
  rises = h.rises;
  drawn = λ k. (
    λ s. let w = (h.drawn k).0 s in let lt = w.0 in (omega arith, w.1, w.2),
    λ w. (h.drawn k).1 (before k w, w.1, w.2),
  );
}
  where
    before : (k : ℕ) → (k < i + 1) × (bit (draws seed (suc k)) 31 ≡ true) × (skipped_before xs (copies - 1) k ≡ false) → k < i
    before k w =
        let lt = w.0 in
        let apart : k ≢ i = λ e. absurd (false≢true (sym (rw e at w.2) ∙ kept (rw e at w.1))) in
        omega (arith, apart)

all_before : (xs : List ℕ) (c i : ℕ) → ((j : ℕ) → j < c → is_in xs (i + j) ≡ true) → skipped_before xs c (i + c) ≡ true
all_before xs zero i all = refl
all_before xs (suc c) i all =
    let e : i + suc c ≡ suc (i + c) = omega arith in
    rw e (rw (all c (omega arith)) (all_before xs c i (λ j lt. all j (omega arith))))

pub drawn_is_legal : (seed steps copies : ℕ) (xs : List ℕ) → 1 ≤ copies → IsDrawn seed steps copies xs → IsLegal copies xs
drawn_is_legal seed steps copies xs one h = record {
  rises = h.rises;
  spares = λ i all.
      let w = (h.drawn (i + (copies - 1))).0 (all (copies - 1) (omega arith)) in
      absurd (false≢true (sym w.2 ∙ all_before xs (copies - 1) i (λ j lt. all j (omega arith))));
}

pub high_bit : (x : ℕ) → x < 2 ^ 32 → 0x80000000 ≤ x → bit x 31 ≡ true
high_bit x lt le = let e : x / 2 ^ 31 % 2 ≡ 1 = omega arith in rw e refl

pub low_bit : (x : ℕ) → x < 0x80000000 → bit x 31 ≡ false
low_bit x lt = let e : x / 2 ^ 31 % 2 ≡ 0 = omega arith in rw e refl
