-- What holds of each element of a list, as it is written out.
use Rattle.std.specs.Prelude.{◌≡◌, ℕ, zero, suc, List, [], ◌∷◌, Some, slice_get, Contains}
use Rattle.std.proofs.Common.{subst, inl, inr}
use Rattle.std.proofs.lemmas.Option.{none-some, same_Some}
use Rattle.elf_model.proofs.Elements.{contains_cases, contains_none}

abbrev pub EachOf : {X : Type 0} → (X → Type 0) → List X → Type 0
EachOf P [] = Unit {0}
EachOf P (x ∷ xs) = P x × EachOf P xs

pub each_of : {X : Type 0} (P : X → Type 0) (xs : List X) → EachOf P xs → (x : X) → Contains xs x → P x
each_of P [] all x c = absurd (contains_none x c)
each_of P (y ∷ ys) all x c = elim (contains_cases y ys x c) [ inl e ↦ subst P e all.0 | inr r ↦ each_of P ys all.1 x r ]

-- by numbers
abbrev pub EachAt : {X : Type 0} → (ℕ → X → Type 0) → List X → Type 0
EachAt P [] = Unit {0}
EachAt P (x ∷ xs) = P 0 x × EachAt (λ k. P (suc k)) xs

pub each_at : {X : Type 0} (P : ℕ → X → Type 0) (xs : List X) → EachAt P xs → (k : ℕ) (x : X) → slice_get xs k ≡ Some x → P k x
each_at P [] all k x e = absurd (none-some x e)
each_at P (y ∷ ys) all zero x e = subst (P zero) (same_Some y x e) all.0
each_at P (y ∷ ys) all (suc k) x e = each_at (λ n. P (suc n)) ys all.1 k x e
