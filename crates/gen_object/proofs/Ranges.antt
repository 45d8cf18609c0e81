-- Lists made for each number of a range.
use Rattle.std.proofs.Common.{◌≡◌, ℕ, zero, suc, ◌+◌, ◌<◌, ◌≤◌, Bool, true, ◌&&◌, List, [], ◌∷◌, ◌++◌, refl, ap, ◌∙◌, arith, map}
use Rattle.std.specs.List.{flat_map, list_all, range_with_len}
use Rattle.std.proofs.lemmas.Grind.{flat_map-append}
use Rattle.std.proofs.lemmas.List.Folds.{list_all-map}

range_more : (a n j : ℕ) → a + n ≡ j → range_with_len a (suc n) ≡ range_with_len a n ++ j ∷ []
range_more a zero j e =
    let same : a ≡ j = omega arith in
    ap (λ (k : ℕ). k ∷ []) same
range_more a (suc n) j e = ap (λ (r : List ℕ). a ∷ r) (range_more (a + 1) n j (omega arith))

append_nil : (xs : List ℕ) → xs ++ [] ≡ xs
append_nil [] = refl
append_nil (x ∷ xs) = ap (λ (r : List ℕ). x ∷ r) (append_nil xs)

pub flat_map_range : (f : ℕ → List ℕ) (n : ℕ) → flat_map f (range_with_len 0 (suc n)) ≡ flat_map f (range_with_len 0 n) ++ f n
flat_map_range f n =
    ap (flat_map f) (range_more 0 n n (omega arith)) ∙ flat_map-append f (range_with_len 0 n) (n ∷ []) ∙ ap (λ (r : List ℕ). flat_map f (range_with_len 0 n) ++ r) (append_nil (f n))

-- a test that holds of each number of a range
pub all_of_range : (p : ℕ → Bool) (a n : ℕ) → ((k : ℕ) → a ≤ k → k < a + n → p k ≡ true) → list_all p (range_with_len a n) ≡ true
all_of_range p a zero each = refl
all_of_range p a (suc n) each =
    ap (λ (b : Bool). b && list_all p (range_with_len (a + 1) n)) (each a (omega arith) (omega arith))
    ∙ all_of_range p (a + 1) n (λ k low high. each k (omega arith) (omega arith))

pub all_of_made : {X : Type 0} (p : X → Bool) (f : ℕ → X) (a n : ℕ) → ((k : ℕ) → a ≤ k → k < a + n → p (f k) ≡ true) → list_all p (map f (range_with_len a n)) ≡ true
all_of_made p f a n each = list_all-map p f (range_with_len a n) ∙ all_of_range (λ k. p (f k)) a n each
