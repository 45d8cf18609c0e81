-- Answers of rows at a place in or out of IT blocks, and what is told of them.
use Rattle.std.proofs.Common.{◌≡◌, ◌<◌, ◌-◌, ◌/◌, ◌^◌, ℕ, Bool, true, false, List, [], ◌∷◌, Ok, Err, refl, subst}
use Rattle.std.proofs.Math.Nat.{mod-lt}
use Rattle.std.proofs.lemmas.Nat.{pow_pos}
use Rattle.std.specs.Prelude.{⊤, ◌&&◌, not, if◌then◌else◌}
use Rattle.thumb_instr.specs.declared.instructions.Instr.{Instr}
use Rattle.thumb_instr.specs.declared.refusals.ItPlace.{ItPlace}
use Rattle.thumb_instr.specs.declared.refusals.ItPlace.TheVariants.{Outside, Inside, Last}
use Rattle.thumb_instr.specs.Meanings.{is_outside, is_inside}
use Rattle.thumb_instr.specs.Patterns.{Bits, Fixed, Field, Made, Row, Answer, cut, fits, filled_in, decoded}
use Rattle.seq_core.specs.Reading.{may_jump, starts_block}

-- What jumps is not inside of a block, and what starts a block is outside of one.
abbrev pub tells : ItPlace → Answer → Bool
tells place (Ok i) = not (may_jump i && is_inside place) && not (starts_block i && not (is_outside place))
tells place (Err k) = true

-- no place is both
pub not_both : (place : ItPlace) → (is_outside place && is_inside place) ≡ false
not_both Outside = refl
not_both Inside = refl
not_both Last = refl

abbrev pub Fill : ItPlace → (ps : List Bits) → Made ps → Type 0
Fill place [] a = tells place a ≡ true
Fill place (Fixed w v ∷ ps) f = Fill place ps f
Fill place (Field w ∷ ps) f = (k : ℕ) → k < 2 ^ w → Fill place ps (f k)

cut_fits : (h top w : ℕ) → cut h top w < 2 ^ w
cut_fits h top w = mod-lt (h / 2 ^ (top - w)) {m = 2 ^ w} (pow_pos w)

filled_tells : (place : ItPlace) (ps : List Bits) (f : Made ps) (top h : ℕ) → Fill place ps f → tells place (filled_in ps f top h) ≡ true
filled_tells place [] a top h g = g
filled_tells place (Fixed w v ∷ ps) f top h g = filled_tells place ps f (top - w) h g
filled_tells place (Field w ∷ ps) f top h g = filled_tells place ps (f (cut h top w)) (top - w) h (g (cut h top w) (cut_fits h top w))

abbrev pub AllPlaced : ItPlace → List Row → Type 0
AllPlaced place [] = ⊤
AllPlaced place (r ∷ rows) = Fill place r.pattern r.means × AllPlaced place rows

infixr 4 ◌&◌
-- one row, and the rows behind it
pub ◌&◌ : {A B : Type 0} → A → B → A × B
a & b = (a, b)

pub if_tells : (place : ItPlace) (b : Bool) (x y : Answer) → (b ≡ true → tells place x ≡ true) → (b ≡ false → tells place y ≡ true) → tells place (if b then x else y) ≡ true
if_tells place true x y g h = g refl
if_tells place false x y g h = h refl

pub decoded_tells : (place : ItPlace) (size : ℕ) (rows : List Row) (h : ℕ) → AllPlaced place rows → tells place (decoded size rows h) ≡ true
decoded_tells place size [] h g = refl
decoded_tells place size (r ∷ rows) h g = if_tells place (fits r.pattern size h) _ _ (λ _. filled_tells place r.pattern r.means size h g.0) (λ _. decoded_tells place size rows h g.1)

-- what an instruction's answer tells
abbrev pub IsTold : ItPlace → Instr → Type 0
IsTold place i = ((may_jump i && is_inside place) ≡ false) × ((starts_block i && not (is_outside place)) ≡ false)

pub told : (place : ItPlace) (i : Instr) (a : Answer) → a ≡ Ok i → tells place a ≡ true → IsTold place i
told place i (Ok j) e t = let same : j ≡ i = cc in subst (IsTold place) same (all (may_jump j && is_inside place) (starts_block j && not (is_outside place)) t)
  where
    all : (a b : Bool) → (not a && not b) ≡ true → (a ≡ false) × (b ≡ false)
    all false false t = (refl, refl)
    all false true t = cc
    all true b t = cc
told place i (Err k) e t = cc
