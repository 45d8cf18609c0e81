-- The elements of lists that are made for each number of a range.
use Rattle.std.proofs.Common.{◌≡◌, ◌<◌, ◌≤◌, ℕ, zero, suc, ◌+◌, Bool, true, false, cond, List, [], ◌∷◌, ◌++◌, map, filter, refl, ap, ◌∙◌, inl, inr, arith, Some}
use Rattle.std.specs.Prelude.{Contains, slice_get}
use Rattle.std.specs.List.{range_with_len}
use Rattle.std.proofs.lemmas.Option.{none-some, same_Some}
use Rattle.elf_model.proofs.Elements.{contains_cases, contains_none}

-- an element of one is made for a number of the range
pub made_for : {X : Type 0} (f : ℕ → X) (a n : ℕ) (x : X) → Contains (map f (range_with_len a n)) x → (k : ℕ) × (a ≤ k) × (k < a + n) × (f k ≡ x)
made_for f a zero x h = absurd (contains_none x h)
made_for f a (suc n) x h =
    elim (contains_cases (f a) (map f (range_with_len (a + 1) n)) x h) [
      | inl e ↦ (a, omega arith, omega arith, e)
      | inr r ↦
          let g = made_for f (a + 1) n x r in
          let low : a + 1 ≤ g.0 = g.1 in
          let high : g.0 < (a + 1) + n = g.2 in
          (g.0, omega arith, omega arith, g.3)
    ]

-- a test that each of them passes, or none
pub all_pass : {X : Type 0} (p : X → Bool) (f : ℕ → X) (a n : ℕ) → ((k : ℕ) → p (f k) ≡ true) → filter p (map f (range_with_len a n)) ≡ map f (range_with_len a n)
all_pass p f a zero each = refl
all_pass {X} p f a (suc n) each =
    let rest : List X = map f (range_with_len (a + 1) n) in
    ap (λ (b : Bool). cond b (f a ∷ filter p rest) (filter p rest)) (each a) ∙ ap (λ (l : List X). f a ∷ l) (all_pass p f (a + 1) n each)

pub none_pass : {X : Type 0} (p : X → Bool) (f : ℕ → X) (a n : ℕ) → ((k : ℕ) → p (f k) ≡ false) → filter p (map f (range_with_len a n)) ≡ []
none_pass p f a zero each = refl
none_pass {X} p f a (suc n) each =
    let rest : List X = map f (range_with_len (a + 1) n) in
    ap (λ (b : Bool). cond b (f a ∷ filter p rest) (filter p rest)) (each a) ∙ none_pass p f (a + 1) n each

-- the element of a list of one
pub sole : {X : Type 0} (x : X) (i : ℕ) (y : X) → slice_get (x ∷ []) i ≡ Some y → (i ≡ 0) × (x ≡ y)
sole x zero y e = (refl, same_Some x y e)
sole x (suc i) y e = absurd (none-some y e)

pub contains_sole : {X : Type 0} (x y : X) → Contains (x ∷ []) y → x ≡ y
contains_sole x y h = elim (contains_cases x [] y h) [ inl e ↦ e | inr r ↦ absurd (contains_none y r) ]

pub no_more : {X : Type 0} (xs : List X) → xs ++ [] ≡ xs
no_more [] = refl
no_more {X} (x ∷ xs) = ap (λ (l : List X). x ∷ l) (no_more xs)
