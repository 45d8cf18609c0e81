-- Elements of lists of one or two.
use Rattle.std.specs.Prelude.{◌≡◌, ◌⊎◌, ℕ, zero, suc, [], ◌∷◌, Some, slice_get, Contains, refl}
use Rattle.std.proofs.Common.{inl, inr}
use Rattle.std.proofs.lemmas.Option.{none-some, same_Some}
use Rattle.elf_model.proofs.Elements.{contains_cases, contains_none}

pub only : {X : Type 0} (a y : X) → Contains (a ∷ []) y → a ≡ y
only a y c = elim (contains_cases a [] y c) [ inl e ↦ e | inr n ↦ absurd (contains_none y n) ]

pub either : {X : Type 0} (a b y : X) → Contains (a ∷ b ∷ []) y → (a ≡ y) ⊎ (b ≡ y)
either a b y c = elim (contains_cases a (b ∷ []) y c) [ inl e ↦ inl e | inr n ↦ inr (only b y n) ]

-- by number
pub at_two : {X : Type 0} (a b y : X) (k : ℕ) → slice_get (a ∷ b ∷ []) k ≡ Some y → ((k ≡ 0) × (a ≡ y)) ⊎ ((k ≡ 1) × (b ≡ y))
at_two a b y zero e = inl (refl, same_Some a y e)
at_two a b y (suc zero) e = inr (refl, same_Some b y e)
at_two a b y (suc (suc k)) e = absurd (none-some y e)
