-- Members of schedules.
use Rattle.std.proofs.Common.{◌≡◌, ℕ, zero, suc, ◌<◌, ◌≤◌, ◌==◌, ◌||◌, Bool, true, false, List, [], ◌∷◌, length, get_or, Result, Ok, Err, MatchResult, arith, refl, sym, eq-eqb}
use Rattle.std.specs.Prelude.{is_ok}
use Rattle.std.proofs.lemmas.Bool.{false≢true, eqb-true}
use Rattle.thumb_table.specs.Schedules.{is_in}

-- what stands in a list is in it
pub in_at : (xs : List ℕ) (k i : ℕ) → k < length xs → get_or xs k 0 ≡ i → is_in xs i ≡ true
in_at [] k i lt e = absurd (omega arith)
in_at (x ∷ xs) zero i lt e = rw (eq-eqb x i e) refl
in_at (x ∷ xs) (suc k) i lt e =
    elim (x == i) as (λ t. (t || is_in xs i) ≡ true) [ true ↦ refl | false ↦ in_at xs k i (omega arith) e ]

-- what is in a list stands in it
pub place_of : (xs : List ℕ) (i : ℕ) → is_in xs i ≡ true → (k : ℕ) × (k < length xs) × (get_or xs k 0 ≡ i)
place_of [] i h = absurd (false≢true h)
place_of (x ∷ xs) i h = go (place_of xs i) (x == i) refl h
  where
    go : (is_in xs i ≡ true → (k : ℕ) × (k < length xs) × (get_or xs k 0 ≡ i)) → (t : Bool) → (x == i) ≡ t → (t || is_in xs i) ≡ true
        → (k : ℕ) × (k < length (x ∷ xs)) × (get_or (x ∷ xs) k 0 ≡ i)
    go later true e h = (0, omega arith, eqb-true x i e)
    go later false e h = let there = later h in (suc there.0, omega (arith, there.1), there.2)

-- what a search says of it
pub searched_for : (xs : List ℕ) (x : ℕ) (r : Result ℕ ℕ)
    → MatchResult r (λ i. (i < length xs) × (get_or xs i 0 ≡ x)) (λ i. (i ≤ length xs) × ((k : ℕ) → k < i → get_or xs k 0 < x) × ((k : ℕ) → i ≤ k → k < length xs → x < get_or xs k 0))
    → is_ok r ≡ is_in xs x
searched_for xs x (Ok i) m = sym (in_at xs i x m.0 m.1)
searched_for xs x (Err i) m = go (is_in xs x) refl
  where
    go : (t : Bool) → is_in xs x ≡ t → false ≡ is_in xs x
    go false e = sym e
    go true e =
        let there = place_of xs x e in
        let never : there.0 < i → ⊥ = λ lt. absurd (omega (arith, m.1 there.0 lt, there.2)) in
        let behind : i ≤ there.0 = omega (arith, never) in
        absurd (omega (arith, m.2 there.0 behind there.1, there.2))
