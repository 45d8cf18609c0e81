-- Answers of rows, and what is told of them.
use Rattle.std.proofs.Common.{◌≡◌, ◌<◌, ◌-◌, ◌/◌, ◌^◌, ℕ, Bool, true, false, List, [], ◌∷◌, Ok, Err, refl, subst}
use Rattle.std.proofs.Math.Nat.{mod-lt}
use Rattle.std.proofs.lemmas.Nat.{pow_pos}
use Rattle.std.specs.Prelude.{⊤, ◌&&◌, not, if◌then◌else◌}
use Rattle.thumb_instr.specs.declared.instructions.Instr.{Instr}
use Rattle.thumb_instr.specs.Patterns.{Bits, Fixed, Field, Made, Row, Answer, cut, fits, filled_in, decoded}
use Rattle.seq_core.specs.Accepted.{keeps_base_apart, misplaces_stack, moves_by_byte, loads_pc_by_pop, takes_stack_once, loads_several, reaches, tests_low_register}

-- An instruction has its base apart and moves it by a byte, has sp where it may stand, loads pc by a pop, and two
-- registers where it is to load several, reaches as far as its offset does, and tests a low register.
abbrev pub tells : Answer → Bool
tells (Ok i) = tests_low_register i && (keeps_base_apart i && (not (misplaces_stack i) && (moves_by_byte i && (loads_pc_by_pop i && (takes_stack_once i && (loads_several i && reaches i))))))
tells (Err k) = true

abbrev pub Fill : (ps : List Bits) → Made ps → Type 0
Fill [] a = tells a ≡ true
Fill (Fixed w v ∷ ps) f = Fill ps f
Fill (Field w ∷ ps) f = (k : ℕ) → k < 2 ^ w → Fill ps (f k)

cut_fits : (h top w : ℕ) → cut h top w < 2 ^ w
cut_fits h top w = mod-lt (h / 2 ^ (top - w)) {m = 2 ^ w} (pow_pos w)

filled_tells : (ps : List Bits) (f : Made ps) (top h : ℕ) → Fill ps f → tells (filled_in ps f top h) ≡ true
filled_tells [] a top h g = g
filled_tells (Fixed w v ∷ ps) f top h g = filled_tells ps f (top - w) h g
filled_tells (Field w ∷ ps) f top h g = filled_tells ps (f (cut h top w)) (top - w) h (g (cut h top w) (cut_fits h top w))

abbrev pub AllApart : List Row → Type 0
AllApart [] = ⊤
AllApart (r ∷ rows) = Fill r.pattern r.means × AllApart rows

infixr 4 ◌&◌
-- one row, and the rows behind it
pub ◌&◌ : {A B : Type 0} → A → B → A × B
a & b = (a, b)

pub if_tells : (b : Bool) (x y : Answer) → (b ≡ true → tells x ≡ true) → (b ≡ false → tells y ≡ true) → tells (if b then x else y) ≡ true
if_tells true x y g h = g refl
if_tells false x y g h = h refl

pub decoded_tells : (size : ℕ) (rows : List Row) (h : ℕ) → AllApart rows → tells (decoded size rows h) ≡ true
decoded_tells size [] h g = refl
decoded_tells size (r ∷ rows) h g = if_tells (fits r.pattern size h) _ _ (λ _. filled_tells r.pattern r.means size h g.0) (λ _. decoded_tells size rows h g.1)

-- what an instruction's answer tells
abbrev pub IsTold : Instr → Type 0
IsTold i = (keeps_base_apart i ≡ true) × (misplaces_stack i ≡ false) × (moves_by_byte i ≡ true) × (loads_pc_by_pop i ≡ true) × (takes_stack_once i ≡ true) × (loads_several i ≡ true) × (reaches i ≡ true) × (tests_low_register i ≡ true)

pub told : (i : Instr) (a : Answer) → a ≡ Ok i → tells a ≡ true → IsTold i
told i (Ok j) e t = let same : j ≡ i = cc in subst IsTold same (all (keeps_base_apart j) (misplaces_stack j) (moves_by_byte j) (loads_pc_by_pop j) (takes_stack_once j) (loads_several j) (reaches j) (tests_low_register j) t)
  where
    all : (a b c d e f g h : Bool) → (h && (a && (not b && (c && (d && (e && (f && g))))))) ≡ true → (a ≡ true) × (b ≡ false) × (c ≡ true) × (d ≡ true) × (e ≡ true) × (f ≡ true) × (g ≡ true) × (h ≡ true)
    all true false true true true true true true t = (refl, refl, refl, refl, refl, refl, refl, refl)
    all true false true true true true false true t = cc
    all true false true true true false g true t = cc
    all true false true true false f g true t = cc
    all true false true false e f g true t = cc
    all true false false d e f g true t = cc
    all true true c d e f g true t = cc
    all false b c d e f g true t = cc
    all a b c d e f g false t = cc
told i (Err k) e t = cc
