-- The first of several tests at rising offsets.
use Rattle.std.proofs.Common.{◌≡◌, ◌<◌, ◌≤◌, ◌⊎◌, ℕ, ◌+◌, Bool, true, false, List, [], ◌∷◌, Option, Some, None, inl, inr, arith, refl, cond, leb}
use Rattle.std.specs.Prelude.{◌&&◌}
use Rattle.std.proofs.lemmas.Bool.{false≢true, and_parts, leb-true}
use Rattle.elf_read.specs.Places.{first_of}

-- a test at this offset holds
abbrev pub HoldsIn : List (ℕ × Bool) → ℕ → Type 0
HoldsIn [] d = ⊥
HoldsIn (t ∷ rest) d = ((d ≡ t.0) × (t.1 ≡ true)) ⊎ HoldsIn rest d

-- the offsets rise
abbrev pub rise_from : ℕ → List (ℕ × Bool) → Bool
rise_from low [] = true
rise_from low (t ∷ rest) = leb low t.0 && rise_from (t.0 + 1) rest

above : (low : ℕ) (tests : List (ℕ × Bool)) → rise_from low tests ≡ true → (d : ℕ) → HoldsIn tests d → low ≤ d
above low [] r d h = absurd h
above low (t ∷ rest) r d (inl same) = let le = leb-true low t.0 (and_parts _ _ r).0 in omega (arith, same.0)
above low (t ∷ rest) r d (inr later) = let le = leb-true low t.0 (and_parts _ _ r).0 in omega (arith, above (t.0 + 1) rest (and_parts _ _ r).1 d later)

abbrev pub IsFirstOf : List (ℕ × Bool) → Option ℕ → Type 0
IsFirstOf tests None = (d : ℕ) → HoldsIn tests d → ⊥
IsFirstOf tests (Some e) = HoldsIn tests e × ((d : ℕ) → HoldsIn tests d → d < e → ⊥)

later_none : (t : ℕ × Bool) (rest : List (ℕ × Bool)) → t.1 ≡ false → (r : Option ℕ) → IsFirstOf rest r → IsFirstOf (t ∷ rest) r
later_none t rest fails None h = λ d at. elim at [ inl same ↦ false≢true (cc) | inr later ↦ h d later ]
later_none t rest fails (Some e) h =
    (inr h.0, λ d at lt. elim at [ inl same ↦ false≢true (cc) | inr later ↦ h.1 d later lt ])

first_case : (b : Bool) (d : ℕ) (rest : List (ℕ × Bool)) → rise_from (d + 1) rest ≡ true → IsFirstOf rest (first_of rest) → IsFirstOf ((d, b) ∷ rest) (cond b (Some d) (first_of rest))
first_case true d rest r h =
    (inl (refl, refl), λ e at lt. elim at [ inl same ↦ omega (arith, same.0) | inr later ↦ omega (arith, above (d + 1) rest r e later) ])
first_case false d rest r h = later_none (d, false) rest refl (first_of rest) h

pub first_of_first : (low : ℕ) (tests : List (ℕ × Bool)) → rise_from low tests ≡ true → IsFirstOf tests (first_of tests)
first_of_first low [] r = λ d h. h
first_of_first low (t ∷ rest) r = first_case t.1 t.0 rest (and_parts _ _ r).1 (first_of_first (t.0 + 1) rest (and_parts _ _ r).1)
