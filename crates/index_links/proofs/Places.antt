-- What stands at a place of a list that is written or grows.
use Rattle.std.proofs.Common.{◌≡◌, ◌≢◌, ◌<◌, ℕ, zero, suc, List, [], ◌∷◌, ◌++◌, refl, ap, inl, inr, ◌⊎◌, Some, length, arith}
use Rattle.std.specs.Prelude.{slice_get}
use Rattle.std.proofs.Math.ListN.{set}
use Rattle.std.proofs.lemmas.Option.{none-some, same_Some}

pub push_cases : {X : Type 0} (xs : List X) (y x : X) (k : ℕ) → slice_get (xs ++ y ∷ []) k ≡ Some x → (slice_get xs k ≡ Some x) ⊎ ((k ≡ length xs) × (y ≡ x))
push_cases [] y x zero e = inr (refl, same_Some y x e)
push_cases [] y x (suc k) e = absurd (none-some x e)
push_cases (z ∷ xs) y x zero e = inl e
push_cases (z ∷ xs) y x (suc k) e = elim (push_cases xs y x k e) [
  | inl old ↦ inl old
  | inr new ↦ inr (ap (λ (n : ℕ). suc n) new.0, new.1)
]

pub push_old : {X : Type 0} (xs : List X) (y x : X) (k : ℕ) → slice_get xs k ≡ Some x → slice_get (xs ++ y ∷ []) k ≡ Some x
push_old [] y x k e = absurd (none-some x e)
push_old (z ∷ xs) y x zero e = e
push_old (z ∷ xs) y x (suc k) e = push_old xs y x k e

pub push_new : {X : Type 0} (xs : List X) (y : X) → slice_get (xs ++ y ∷ []) (length xs) ≡ Some y
push_new [] y = refl
push_new (z ∷ xs) y = push_new xs y

pub set_cases : {X : Type 0} (xs : List X) (i k : ℕ) (y x : X) → slice_get (set xs i y) k ≡ Some x → ((k ≡ i) × (y ≡ x)) ⊎ ((k ≢ i) × (slice_get xs k ≡ Some x))
set_cases [] i k y x e = absurd (none-some x e)
set_cases (z ∷ xs) zero zero y x e = inl (refl, same_Some y x e)
set_cases (z ∷ xs) zero (suc k) y x e = inr (λ same. absurd (omega arith), e)
set_cases (z ∷ xs) (suc i) zero y x e = inr (λ same. absurd (omega arith), e)
set_cases (z ∷ xs) (suc i) (suc k) y x e = elim (set_cases xs i k y x e) [
  | inl same ↦ inl (ap (λ (n : ℕ). suc n) same.0, same.1)
  | inr other ↦ inr (λ same. other.0 (omega arith), other.1)
]

pub set_there : {X : Type 0} (xs : List X) (i : ℕ) (y : X) → i < length xs → slice_get (set xs i y) i ≡ Some y
set_there [] i y low = absurd (omega arith)
set_there (z ∷ xs) zero y low = refl
set_there (z ∷ xs) (suc i) y low = set_there xs i y (omega arith)

pub set_other : {X : Type 0} (xs : List X) (i k : ℕ) (y : X) → k ≢ i → slice_get (set xs i y) k ≡ slice_get xs k
set_other [] i k y ne = refl
set_other (z ∷ xs) zero zero y ne = absurd (ne refl)
set_other (z ∷ xs) zero (suc k) y ne = refl
set_other (z ∷ xs) (suc i) zero y ne = refl
set_other (z ∷ xs) (suc i) (suc k) y ne = set_other xs i k y (λ e. ne (ap (λ (n : ℕ). suc n) e))
