-- Lists made for each number of a range.
use Rattle.std.proofs.Common.{◌≡◌, ℕ, zero, suc, ◌+◌, ◌<◌, Bool, true, false, refl, sym, ap, ◌∙◌, subst, arith, Some, None, map}
use Rattle.std.specs.Prelude.{slice_get, ◌||◌}
use Rattle.std.specs.List.{list_any, position, position_from, range_with_len}
use Rattle.std.proofs.lemmas.Bool.{cond-true, cond-false}
use Rattle.std.proofs.lemmas.Option.{none-some, same_Some}
use Rattle.std.proofs.lemmas.Iterator.Adapters.{position_from-zero}

module _ {X : Type 0} (f : ℕ → X) where
  made_from : (a n k : ℕ) (x : X) → slice_get (map f (range_with_len a n)) k ≡ Some x → (k < n) × (x ≡ f (a + k))
  made_from a zero k x e = absurd (none-some x e)
  made_from a (suc n) zero x e =
      let same : a ≡ a + 0 = omega arith in
      (omega arith, sym (same_Some (f a) x e) ∙ ap f same)
  made_from a (suc n) (suc k) x e =
      let more = made_from (a + 1) n k x e in
      let same : (a + 1) + k ≡ a + suc k = omega arith in
      (omega (arith, more.0), more.1 ∙ ap f same)

  -- the element at an index
  pub made_at : (n k : ℕ) (x : X) → slice_get (map f (range_with_len 0 n)) k ≡ Some x → (k < n) × (x ≡ f k)
  made_at n k x e =
      let found = made_from 0 n k x e in
      let same : 0 + k ≡ k = omega arith in
      (found.0, found.1 ∙ ap f same)

  there_from : (a n k : ℕ) → k < n → slice_get (map f (range_with_len a n)) k ≡ Some (f (a + k))
  there_from a zero k few = absurd (omega arith)
  there_from a (suc n) zero few =
      let same : a ≡ a + 0 = omega arith in
      ap (λ (m : ℕ). Some (f m)) same
  there_from a (suc n) (suc k) few =
      let same : (a + 1) + k ≡ a + suc k = omega arith in
      there_from (a + 1) n k (omega arith) ∙ ap (λ (m : ℕ). Some (f m)) same

  pub made_there : (n k : ℕ) → k < n → slice_get (map f (range_with_len 0 n)) k ≡ Some (f k)
  made_there n k few =
      let same : 0 + k ≡ k = omega arith in
      there_from 0 n k few ∙ ap (λ (m : ℕ). Some (f m)) same

  -- a test that holds of none
  pub made_none : (t : X → Bool) → ((k : ℕ) → t (f k) ≡ false) → (a n : ℕ) → list_any t (map f (range_with_len a n)) ≡ false
  made_none t each a zero = refl
  made_none t each a (suc n) = ap (λ (b : Bool). b || list_any t (map f (range_with_len (a + 1) n))) (each a) ∙ made_none t each (a + 1) n

  position_there : (t : X → Bool) (a n k i : ℕ) → k < n → ((m : ℕ) → m < a + k → t (f m) ≡ false) → t (f (a + k)) ≡ true → position_from t i (map f (range_with_len a n)) ≡ Some (i + k)
  position_there t a zero k i few before here = absurd (omega arith)
  position_there t a (suc n) zero i few before here =
      let same : a + 0 ≡ a = omega arith in
      let none : i ≡ i + 0 = omega arith in
      cond-true (t (f a)) (Some i) (position_from t (i + 1) (map f (range_with_len (a + 1) n))) (subst (λ (m : ℕ). t (f m) ≡ true) same here) ∙ ap (λ (m : ℕ). Some m) none
  position_there t a (suc n) (suc k) i few before here =
      let same : a + suc k ≡ (a + 1) + k = omega arith in
      let sum : (i + 1) + k ≡ i + suc k = omega arith in
      cond-false (t (f a)) (Some i) (position_from t (i + 1) (map f (range_with_len (a + 1) n))) (before a (omega arith))
      ∙ position_there t (a + 1) n k (i + 1) (omega arith) (λ m low. before m (omega arith)) (subst (λ (m : ℕ). t (f m) ≡ true) same here) ∙ ap (λ (m : ℕ). Some m) sum

  -- the first number that passes
  pub made_position : (t : X → Bool) (n k : ℕ) → k < n → ((m : ℕ) → m < k → t (f m) ≡ false) → t (f k) ≡ true → position t (map f (range_with_len 0 n)) ≡ Some k
  made_position t n k few before here =
      let same : k ≡ 0 + k = omega arith in
      position_from-zero t (map f (range_with_len 0 n))
      ∙ position_there t 0 n k 0 few (λ m low. before m (omega arith)) (subst (λ (m : ℕ). t (f m) ≡ true) same here) ∙ ap (λ (m : ℕ). Some m) (sym same)

  no_position : (t : X → Bool) (a n i : ℕ) → ((m : ℕ) → m < a + n → t (f m) ≡ false) → position_from t i (map f (range_with_len a n)) ≡ None
  no_position t a zero i each = refl
  no_position t a (suc n) i each =
      cond-false (t (f a)) (Some i) (position_from t (i + 1) (map f (range_with_len (a + 1) n))) (each a (omega arith)) ∙ no_position t (a + 1) n (i + 1) (λ m low. each m (omega arith))

  pub made_no_position : (t : X → Bool) (n : ℕ) → ((m : ℕ) → m < n → t (f m) ≡ false) → position t (map f (range_with_len 0 n)) ≡ None
  made_no_position t n each = position_from-zero t (map f (range_with_len 0 n)) ∙ no_position t 0 n 0 (λ m low. each m (omega arith))
