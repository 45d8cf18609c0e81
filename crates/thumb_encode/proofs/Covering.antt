-- What holds of each number that a row answers for, and of the instruction that it answers, holds of the whole table's.
use Rattle.std.proofs.Common.{◌≡◌, ℕ, ◌+◌, ◌-◌, Bool, true, false, List, [], ◌∷◌, refl, subst, arith, zero, suc, slice_get, Ok, Err, Option, Some, None, if◌then◌else◌, ◌==◌}
use Rattle.std.proofs.lemmas.Bool.{and_parts, eqb-true}
use Rattle.thumb_instr.specs.declared.conditions.Cond.{Cond}
use Rattle.thumb_instr.specs.declared.instructions.Instr.{Instr}
use Rattle.thumb_instr.specs.declared.refusals.BadInstr.{BadInstr}
use Rattle.thumb_instr.specs.Patterns.{Bits, Fixed, Field, Row, Answer, cut, fits, filled_in, decoded, refused}
use Rattle.thumb_instr.specs.Meanings.{when, on_condition}

-- the fixed bits of a pattern, as equations
abbrev pub Meets : List Bits → ℕ → ℕ → Type 0
Meets [] top h = Unit {0}
Meets (Fixed w v ∷ ps) top h = (cut h top w ≡ v) × Meets ps (top - w) h
Meets (Field w ∷ ps) top h = Meets ps (top - w) h

pub fits_meets : (ps : List Bits) (top h : ℕ) → fits ps top h ≡ true → Meets ps top h
fits_meets [] top h f = tt
fits_meets (Fixed w v ∷ ps) top h f =
    let both = and_parts (cut h top w == v) (fits ps (top - w) h) f in
    (eqb-true (cut h top w) v both.0, fits_meets ps (top - w) h both.1)
fits_meets (Field w ∷ ps) top h f = fits_meets ps (top - w) h f

-- a fact about the instruction, if there is one
abbrev pub OfAnswer : (Instr → Type 0) → Answer → Type 0
OfAnswer P (Ok i) = P i
OfAnswer P (Err e) = Unit {0}

-- what the row answers for a number that fits
abbrev pub OfRow : (Instr → Type 0) → ℕ → ℕ → Row → Type 0
OfRow P size h r = Meets r.pattern size h → OfAnswer P (filled_in r.pattern r.means size h)

infixr 5 ◌&◌
-- a fact about each element of a list and its number, counted from k
pub data Each (X : Type 0) (P : ℕ → X → Type 0) : ℕ → List X → Type 0 where
  done : {k : ℕ} → Each X P k []
  ◌&◌ : {k : ℕ} {x : X} {xs : List X} → P k x → Each X P (suc k) xs → Each X P k (x ∷ xs)

abbrev pub OfRows : (Instr → Type 0) → ℕ → ℕ → List Row → Type 0
OfRows P size h rows = Each Row (λ _ r. OfRow P size h r) 0 rows

pub each-get : {X : Type 0} (P : ℕ → X → Type 0) (j : ℕ) (xs : List X) → Each X P j xs → (k : ℕ) (x : X) → slice_get xs k ≡ Some x → P (k + j) x
each-get {X} P j [] each k x got = absurd (let none : Option X = None in let wrong : none ≡ Some x = got in cc)
each-get P j (y ∷ ys) (first & later) zero x got = let same : y ≡ x = cc in let at : j ≡ 0 + j = omega arith in subst (P (0 + j)) same (subst (λ (n : ℕ). P n y) at first)
each-get P j (y ∷ ys) (first & later) (suc k) x got = let at : k + suc j ≡ suc k + j = omega arith in subst (λ (n : ℕ). P n x) at (each-get P (suc j) ys later k x got)

pub chosen : (P : Bool → Type 0) (b : Bool) → (b ≡ true → P true) → (b ≡ false → P false) → P b
chosen P true t f = t refl
chosen P false t f = f refl

pub of_table : (P : Instr → Type 0) (size h k : ℕ) (rows : List Row) → Each Row (λ _ r. OfRow P size h r) k rows → OfAnswer P (decoded size rows h)
of_table P size h k [] each = tt
of_table P size h k (r ∷ rows) (first & later) =
    chosen (λ b. fits r.pattern size h ≡ b → OfAnswer P (if b then filled_in r.pattern r.means size h else decoded size rows h)) (fits r.pattern size h)
    (λ fit _. first (fits_meets r.pattern size h fit)) (λ _ _. of_table P size h (suc k) rows later) refl

-- the words of the table
pub of_when : (P : Instr → Type 0) (b : Bool) (i : Instr) → P i → OfAnswer P (when b i)
of_when P true i h = h
of_when P false i h = tt

pub of_refused : (P : Instr → Type 0) (rs : List (Bool × BadInstr)) (a : Answer) → OfAnswer P a → OfAnswer P (refused rs a)
of_refused P [] a h = h
of_refused P ((true, e) ∷ rs) a h = tt
of_refused P ((false, e) ∷ rs) a h = of_refused P rs a h

pub of_unless : (P : Instr → Type 0) (b : Bool) (e : BadInstr) (a : Answer) → (b ≡ false → OfAnswer P a) → OfAnswer P (if b then Err e else a)
of_unless P true e a h = tt
of_unless P false e a h = h refl

pub of_either : (P : Instr → Type 0) (b : Bool) (x y : Answer) → (b ≡ true → OfAnswer P x) → (b ≡ false → OfAnswer P y) → OfAnswer P (if b then x else y)
of_either P true x y t f = t refl
of_either P false x y t f = f refl

pub of_condition : (P : Instr → Type 0) (o : Option Cond) (f : Cond → Answer) → ((c : Cond) → o ≡ Some c → OfAnswer P (f c)) → OfAnswer P (on_condition o f)
of_condition P None f h = tt
of_condition P (Some c) f h = h c refl

pub if_true : {A : Type 0} (b : Bool) (x y : A) → b ≡ true → (if b then x else y) ≡ x
if_true b x y e = rw e refl

pub if_false : {A : Type 0} (b : Bool) (x y : A) → b ≡ false → (if b then x else y) ≡ y
if_false b x y e = rw e refl
