-- Numbers of 32 bits are made of their fields.
use Rattle.std.proofs.Common.{◌≡◌, ℕ, ◌+◌, ◌*◌, ◌/◌, ◌%◌, ◌^◌, ◌<◌, Bool, true, false, refl, sym, ap, ◌∙◌, subst, arith, if◌then◌else◌, ◌==◌, Option, Some, None, slice_get, suc, zero}
use Rattle.std.proofs.lemmas.Bool.Decides.{nat_tests}
use Rattle.std.proofs.lemmas.Bool.{eqb-true}
use Rattle.mark_word.specs.declared.numbers.Shift.TheVariants.{Lsl, Lsr, Asr, Ror, Rrx}
use Rattle.thumb_instr.specs.declared.operations.AccessOp.{AccessOp}
use Rattle.thumb_instr.specs.declared.operands.Operand.{Operand}
use Rattle.thumb_instr.specs.declared.operands.Operand.TheVariants.{Reg}
use Rattle.thumb_instr.specs.Patterns.{cut}
use Rattle.thumb_instr.specs.Meanings.{zero_as_32}
use Rattle.thumb_instr.specs.DataRows.{shifted}
use Rattle.mark_word.specs.Formulas.{one_if}
use Rattle.thumb_instr.specs.FullRows.{accesses, shift_of}
use Rattle.thumb_encode.specs.HalfCodes.{shift_number}
use Rattle.thumb_encode.specs.FullCodes.{full_number, split_number, shifted_number, data_code, near_branch, far_branch, access_number}
use Rattle.thumb_encode.proofs.Covering.{chosen, Each, done, ◌&◌, each-get}

pub full_number-cut : (o n a d low c : ℕ) → c < 2 ^ 32 → o ≡ cut c 32 12 → n ≡ cut c 20 4 → a ≡ cut c 16 4 → d ≡ cut c 12 4 → low ≡ cut c 8 8 → full_number o n a d low ≡ c
unfolding full_number
full_number-cut o n a d low c small top base first second rest = omega arith

pub split_number-cut : (o n d imm c : ℕ) → c < 2 ^ 32 → cut c 32 5 ≡ 30 → o ≡ cut c 26 6 → n ≡ cut c 20 4 → cut c 16 1 ≡ 0 → d ≡ cut c 12 4 → imm ≡ 2048 * cut c 27 1 + 256 * cut c 15 3 + cut c 8 8 → split_number o n d imm ≡ c
unfolding split_number full_number
split_number-cut o n d imm c small top op base none second number = omega arith

pub shifted_number-cut : (o n d five low c : ℕ) → c < 2 ^ 32 → o ≡ cut c 32 12 → n ≡ cut c 20 4 → cut c 16 1 ≡ 0 → d ≡ cut c 12 4 → five ≡ 4 * cut c 15 3 + cut c 8 2 → low ≡ cut c 6 6 → shifted_number o n d five low ≡ c
unfolding shifted_number full_number
shifted_number-cut o n d five low c small top base none second number rest = omega arith

pub bit-of : (b : ℕ) → b < 2 → one_if (b == 1) ≡ b
bit-of zero less = refl
bit-of (suc zero) less = refl
bit-of (suc (suc b)) less = absurd (omega arith)

-- a shifted register's amount and kind
pub amount-again : (o n d low i : ℕ) → shifted_number o n d (zero_as_32 i) low ≡ shifted_number o n d i low
unfolding shifted_number
amount-again o n d low i = chosen (λ b. (i == 0) ≡ b → full_number o n ((if b then 32 else i) / 4 % 8) d (2 ^ 6 * ((if b then 32 else i) % 4) + low) ≡ full_number o n (i / 4 % 8) d (2 ^ 6 * (i % 4) + low)) (i == 0)
    (λ e _. let P : ℕ → Type 0 = λ j. full_number o n 0 d (2 ^ 6 * 0 + low) ≡ full_number o n (j / 4 % 8) d (2 ^ 6 * (j % 4) + low) in subst P (sym (eqb-true i 0 e)) refl)
    (λ _ _. refl) refl

pub three_left : (k : ℕ) → k < 4 → (k == 0) ≡ false → (k == 1) ≡ false → (k == 2) ≡ false → 3 ≡ k
three_left k h a b c = grind (arith, nat_tests)

pub data_code-shifted : (o : ℕ) (s : Bool) (n d m k i : ℕ) → k < 4 → data_code o s n d (shifted m k i) ≡ shifted_number (2 ^ 5 * 117 + 2 * o + one_if s) n d i (2 ^ 4 * k + m)
unfolding shifted
data_code-shifted o s n d m k i small =
    let top = 2 ^ 5 * 117 + 2 * o + one_if s in
    let kind_is : (j : ℕ) → j ≡ k → shifted_number top n d i (2 ^ 4 * j + m) ≡ shifted_number top n d i (2 ^ 4 * k + m) = λ j e. ap (λ (y : ℕ). shifted_number top n d i (2 ^ 4 * y + m)) e in
    let P : Operand → Type 0 = λ x. data_code o s n d x ≡ shifted_number top n d i (2 ^ 4 * k + m) in
    chosen (λ t. P (if t then Reg m Lsl i else if k == 1 then Reg m Lsr (zero_as_32 i) else if k == 2 then Reg m Asr (zero_as_32 i) else if i == 0 then Reg m Rrx 0 else Reg m Ror i)) (k == 0)
    (λ e. kind_is 0 (sym (eqb-true k 0 e)))
    (λ not0. chosen (λ t. P (if t then Reg m Lsr (zero_as_32 i) else if k == 2 then Reg m Asr (zero_as_32 i) else if i == 0 then Reg m Rrx 0 else Reg m Ror i)) (k == 1)
    (λ e. amount-again top n d (2 ^ 4 * 1 + m) i ∙ kind_is 1 (sym (eqb-true k 1 e)))
    (λ not1. chosen (λ t. P (if t then Reg m Asr (zero_as_32 i) else if i == 0 then Reg m Rrx 0 else Reg m Ror i)) (k == 2)
    (λ e. amount-again top n d (2 ^ 4 * 2 + m) i ∙ kind_is 2 (sym (eqb-true k 2 e)))
    (λ not2. chosen (λ t. P (if t then Reg m Rrx 0 else Reg m Ror i)) (i == 0)
    (λ e. ap (λ (y : ℕ). shifted_number top n d y (2 ^ 4 * 3 + m)) (sym (eqb-true i 0 e)) ∙ kind_is 3 (three_left k small not0 not1 not2))
    (λ _. kind_is 3 (three_left k small not0 not1 not2)))))

-- two bits of a long branch's offset are set where they are the sign's
pub same-twice : (j s : ℕ) → j < 2 → s < 2 → one_if (one_if (j == s) == s) ≡ j
same-twice zero zero x y = refl
same-twice zero (suc zero) x y = refl
same-twice (suc zero) zero x y = refl
same-twice (suc zero) (suc zero) x y = refl
same-twice j (suc (suc s)) x y = absurd (omega arith)
same-twice (suc (suc j)) s x y = absurd (omega arith)

pub one_if-small : (b : Bool) → one_if b < 2
one_if-small true = omega arith
one_if-small false = omega arith

pub far_branch-of : (o z s p q i10 i11 : ℕ) → s < 2 → p < 2 → q < 2 → i10 < 2 ^ 10 → i11 < 2 ^ 11 → z % 2 ^ 25 ≡ 2 ^ 24 * s + 2 ^ 23 * p + 2 ^ 22 * q + 2 ^ 12 * i10 + 2 * i11
    → far_branch o z ≡ 2 ^ 27 * 30 + 2 ^ 26 * s + 2 ^ 16 * i10 + 2 ^ 14 * o + 2 ^ 12 + 2 ^ 13 * one_if (p == s) + 2 ^ 11 * one_if (q == s) + i11
unfolding far_branch
far_branch-of o z s p q i10 i11 less_s less_p less_q less_10 less_11 is =
    let sign : z / 2 ^ 24 % 2 ≡ s = omega arith in
    let high : z / 2 ^ 23 % 2 ≡ p = omega arith in
    let low : z / 2 ^ 22 % 2 ≡ q = omega arith in
    let ten : z / 2 ^ 12 % 2 ^ 10 ≡ i10 = omega arith in
    let eleven : z / 2 % 2 ^ 11 ≡ i11 = omega arith in
    rw (sign, high, low, ten, eleven) refl

pub near_branch-of : (k z s a b i6 i11 : ℕ) → s < 2 → a < 2 → b < 2 → i6 < 2 ^ 6 → i11 < 2 ^ 11 → z % 2 ^ 21 ≡ 2 ^ 20 * s + 2 ^ 19 * a + 2 ^ 18 * b + 2 ^ 12 * i6 + 2 * i11
    → near_branch k z ≡ 2 ^ 27 * 30 + 2 ^ 26 * s + 2 ^ 22 * k + 2 ^ 16 * i6 + 2 ^ 15 + 2 ^ 13 * b + 2 ^ 11 * a + i11
unfolding near_branch
near_branch-of k z s a b i6 i11 less_s less_a less_b less_6 less_11 is =
    let sign : z / 2 ^ 20 % 2 ≡ s = omega arith in
    let high : z / 2 ^ 19 % 2 ≡ a = omega arith in
    let low : z / 2 ^ 18 % 2 ≡ b = omega arith in
    let six : z / 2 ^ 12 % 2 ^ 6 ≡ i6 = omega arith in
    let eleven : z / 2 % 2 ^ 11 ≡ i11 = omega arith in
    rw (sign, high, low, six, eleven) refl

-- loads and stores
abbrev pub Numbers : Option AccessOp → ℕ → Type 0
Numbers None k = Unit {0}
Numbers (Some op) k = access_number op ≡ k

pub access_number-get : (k : ℕ) (op : AccessOp) → slice_get accesses k ≡ Some (Some op) → access_number op ≡ k
access_number-get k op got =
    let P : ℕ → Option AccessOp → Type 0 = λ j o. Numbers o j in
    let each : Each (Option AccessOp) P 0 accesses =
    refl & refl & refl & refl & refl & refl & tt & tt & tt & refl & tt & refl & done in
    each-get P 0 accesses each k (Some op) got ∙ omega arith

pub shift_number-of : (k : ℕ) → k < 4 → shift_number (shift_of k) ≡ k
shift_number-of zero less = refl
shift_number-of (suc zero) less = refl
shift_number-of (suc (suc zero)) less = refl
shift_number-of (suc (suc (suc zero))) less = refl
shift_number-of (suc (suc (suc (suc k)))) less = absurd (omega arith)
