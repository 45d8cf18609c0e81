-- Marks that rise by place.
use Rattle.std.proofs.Common.{◌≡◌, ℕ, zero, suc, ◌<◌, ◌==◌, true, false, List, [], ◌∷◌, length, map, get_or, arith, refl, inl, inr, eq-eqb}
use Rattle.std.proofs.lemmas.Bool.Decides.{eqb_tells}
use Rattle.mark_word.specs.declared.marks.Mark.TheVariants.{Plain}
use Rattle.thumb_table.specs.declared.parts.PlaceMark.{PlaceMark}
use Rattle.thumb_table.specs.Effects.{mark_at}

abbrev pub places : List PlaceMark → List ℕ
places ms = map (λ p. p.at) ms

abbrev pub nowhere : PlaceMark
nowhere = record { at = 0; mark = Plain }

pub differs : (a b : ℕ) → (a ≡ b → ⊥) → (a == b) ≡ false
differs a b ne = elim (eqb_tells a b) [ inl p ↦ absurd (ne p.1) | inr p ↦ p.0 ]

pub place_of : (ms : List PlaceMark) (k : ℕ) → get_or (places ms) k 0 ≡ (get_or ms k nowhere).at
place_of [] k = refl
place_of (p ∷ ms) zero = refl
place_of (p ∷ ms) (suc k) = place_of ms k

pub length_places : (ms : List PlaceMark) → length (places ms) ≡ length ms
length_places [] = refl
length_places (p ∷ ms) = grind (arith, length_places ms)

pub no_mark : (ms : List PlaceMark) (a : ℕ) → ((k : ℕ) → k < length ms → get_or (places ms) k 0 ≡ a → ⊥) → mark_at ms a ≡ Plain
no_mark [] a none = refl
no_mark (p ∷ ms) a none = let e : (p.at == a) ≡ false = differs p.at a (none 0 (omega arith)) in rw e (no_mark ms a (λ k lt. none (suc k) (omega arith)))

pub mark_here : (ms : List PlaceMark) (a k : ℕ) → k < length ms → (get_or ms k nowhere).at ≡ a → ((j : ℕ) → j < k → get_or (places ms) j 0 < a) → mark_at ms a ≡ (get_or ms k nowhere).mark
mark_here [] a k lt same below = absurd (omega arith)
mark_here (p ∷ ms) a zero lt same below = let e : (p.at == a) ≡ true = eq-eqb p.at a same in rw e refl
mark_here (p ∷ ms) a (suc k) lt same below =
    let e : (p.at == a) ≡ false = differs p.at a (λ s. absurd (omega (arith, below 0 (omega arith)))) in
    rw e (mark_here ms a k (omega arith) same (λ j l. below (suc j) (omega arith)))
