-- Sums over the headers of a file are sums over its sections.
use Rattle.std.proofs.Common.{◌≡◌, ◌≤◌, ℕ, zero, suc, ◌+◌, Bool, true, false, cond, List, [], ◌∷◌, length, Some, refl, subst, arith, map, filter}
use Rattle.std.specs.Prelude.{slice_get, All}
use Rattle.std.specs.List.{sum_by, flat_map}
use Rattle.std.proofs.lemmas.List.{length-append}
use Rattle.std.proofs.lemmas.List.Sums.{sum_by-cons, sum_by-le}
use Rattle.std.proofs.lemmas.List.Elements.{All-weaker}
use Rattle.elf_model.specs.Files.{from}

-- what the numbers that pass add up to is no more than what the elements do
pub sum_filter-le : {X : Type 0} (f : ℕ → ℕ) (p : ℕ → Bool) (g : X → ℕ) (first h : ℕ) (xs : List X) → h ≤ length xs
    → ((i : ℕ) (x : X) → slice_get xs i ≡ Some x → p (first + i) ≡ true → f (first + i) ≤ g x) → sum_by f (filter p (from first h)) ≤ sum_by g xs
sum_filter-le f p g first zero xs l a = omega arith
sum_filter-le f p g first (suc h) [] l a = absurd (omega arith)
sum_filter-le f p g first (suc h) (x ∷ xs) l a =
    go (sum_filter-le f p g (first + 1) h xs (omega arith) (λ i y e t.
    let s : (first + 1) + i ≡ first + suc i = omega arith in
    subst (λ (k : ℕ). p k ≡ true → f k ≤ g y) (same_back i) (a (suc i) y e) t)) here (p first) refl
  where
    same_back : (i : ℕ) → first + suc i ≡ (first + 1) + i
    same_back i = omega arith

    same : first + 0 ≡ first
    same = omega arith

    here : p first ≡ true → f first ≤ g x
    here = subst (λ (k : ℕ). p k ≡ true → f k ≤ g x) same (a 0 x refl)

    go : sum_by f (filter p (from (first + 1) h)) ≤ sum_by g xs → (p first ≡ true → f first ≤ g x) → (t : Bool) → p first ≡ t → sum_by f (cond t (first ∷ filter p (from (first + 1) h)) (filter p (from (first + 1) h))) ≤ sum_by g (x ∷ xs)
    go r one true e = let z = one e in omega (arith, r, z, sum_by-cons f first (filter p (from (first + 1) h)), sum_by-cons g x xs)
    go r one false e = omega (arith, r, sum_by-cons g x xs)

pub sum-none : {X : Type 0} (g : X → ℕ) (xs : List X) → All (λ x. g x ≡ 0) xs → sum_by g xs ≡ 0
sum-none {X = X} g xs a = let z = sum_by-le g 0 xs (All-weaker (λ (x : X). g x ≡ 0) (λ x. g x ≤ 0) (λ x e. omega arith) xs a) in omega (arith, z)

pub sum_of_map : {X Y : Type 0} (g : Y → ℕ) (f : X → Y) (xs : List X) → sum_by g (map f xs) ≡ sum_by (λ x. g (f x)) xs
sum_of_map g f [] = refl
sum_of_map g f (x ∷ xs) =
    let r = sum_of_map g f xs in
    omega (arith, r, sum_by-cons g (f x) (map f xs), sum_by-cons (λ (y : _). g (f y)) x xs)

-- the lengths of what is joined
pub sum_lengths : {X Y : Type 0} (g : X → ℕ) (f : X → List Y) (xs : List X) → ((x : X) → g x ≡ length (f x)) → sum_by g xs ≡ length (flat_map f xs)
sum_lengths g f [] a = refl
sum_lengths g f (x ∷ xs) a =
    let r = sum_lengths g f xs a in
    let one = a x in
    omega (arith, r, one, sum_by-cons g x xs, length-append (f x) (flat_map f xs))
