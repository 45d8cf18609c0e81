-- Instructions that the test takes have a code of two halfwords: registers.
use Rattle.std.proofs.Common.{◌≡◌, ℕ, ◌*◌, ◌/◌, ◌^◌, ◌<◌, ◌≤◌, Bool, true, false, List, [], ◌∷◌, refl, sym, ◌∙◌, subst, arith, Ok, Err, ◌==◌, ◌&&◌, ◌||◌, not, if◌then◌else◌}
use Rattle.std.specs.List.{list_any}
use Rattle.std.proofs.lemmas.Bool.{and_parts, eqb-true, eq-eqb}
use Rattle.std.proofs.lemmas.Bool.Decides.{nat_tests}
use Rattle.mark_word.specs.declared.numbers.Shift.{Shift}
use Rattle.mark_word.specs.declared.numbers.Shift.TheVariants.{Lsl, Lsr, Asr, Ror, Rrx}
use Rattle.thumb_instr.specs.declared.operations.UnaryOp.{UnaryOp}
use Rattle.thumb_instr.specs.declared.operations.UnaryOp.TheVariants.{Sxth, Sxtb, Uxth, Uxtb, Rev, Rev16, Revsh, Rbit, Clz}
use Rattle.thumb_instr.specs.declared.operations.LongMulOp.{LongMulOp}
use Rattle.thumb_instr.specs.declared.operations.LongMulOp.TheVariants.{Smull, Umull, Smlal, Umlal}
use Rattle.thumb_instr.specs.declared.instructions.Instr.{Instr}
use Rattle.thumb_instr.specs.declared.instructions.Instr.TheVariants as instr
use Rattle.thumb_instr.specs.declared.refusals.BadInstr.{BadInstr}
use Rattle.thumb_instr.specs.declared.refusals.BadInstr.TheVariants.{Unpredictable}
use Rattle.thumb_instr.specs.Fields.{ShiftByFields, UnaryFields, MulFields, MulAccFields, DivFields, LongMulFields}
use Rattle.thumb_instr.specs.Operands.{goes_by_register, is_turn, is_extension}
use Rattle.thumb_instr.specs.Patterns.{Answer, refused}
use Rattle.thumb_instr.specs.Meanings.{when, unary}
use Rattle.thumb_instr.specs.FullRows.{full_rows, on_plain, shift_of, product}
use Rattle.thumb_encode.specs.HalfCodes.{shift_number}
use Rattle.mark_word.specs.Formulas.{one_if}
use Rattle.thumb_encode.specs.HasFull.{has_full, lacks_sp}
use Rattle.thumb_encode.proofs.Putting.{IsGiven, IsCoded, coded}
use Rattle.thumb_encode.proofs.Covering.{if_false}

-- a register has four bits, and is not pc
pub four_bits : (r : ℕ) → r ≤ 14 → r < 2 ^ 4
four_bits r low = omega arith

pub no_pc : (r : ℕ) → r ≤ 14 → (r == 15) ≡ false
no_pc r low = grind (arith, nat_tests)

pub one_bit : (b : Bool) → one_if b < 2 ^ 1
one_bit true = omega arith
one_bit false = omega arith

pub bit_again : (b : Bool) → (one_if b == 1) ≡ b
bit_again true = refl
bit_again false = refl

pub neither : (a b : Bool) → a ≡ false → b ≡ false → (a || b) ≡ false
neither true b e f = e
neither false b e f = f

pub not_true : (b : Bool) → not b ≡ true → b ≡ false
not_true true e = (cc)
not_true false e = refl

pub not_false : (b : Bool) → b ≡ true → not b ≡ false
not_false true e = refl
not_false false e = (cc)

pub taken : (b : Bool) (i : Instr) → b ≡ true → when b i ≡ Ok i
taken true i e = refl
taken false i e = (cc)

pub passed : (b : Bool) (k : BadInstr) (a : Answer) (i : Instr) → b ≡ false → a ≡ Ok i → (if b then Err k else a) ≡ Ok i
passed true k a i e f = (cc)
passed false k a i e f = f

-- registers from r0 to lr
abbrev pub AreLow : List ℕ → Type 0
AreLow [] = Unit {0}
AreLow (r ∷ rs) = (r ≤ 14) × AreLow rs

pub lack_pc : (rs : List ℕ) → AreLow rs → list_any (λ r. r == 15) rs ≡ false
lack_pc [] low = refl
lack_pc (r ∷ rs) low = neither (r == 15) (list_any (λ r. r == 15) rs) (no_pc r low.0) (lack_pc rs low.1)

pub plain_takes : (rs : List ℕ) (a : Answer) (i : Instr) → AreLow rs → lacks_sp rs ≡ true → a ≡ Ok i → on_plain rs a ≡ Ok i
plain_takes rs a i low e f = passed _ _ _ i (lack_pc rs low) (passed _ _ _ i (not_true (list_any (λ r. r == 13) rs) e) f)

shift_again : (kind : Shift) → goes_by_register kind ≡ true → shift_of (shift_number kind) ≡ kind
shift_again Lsl e = refl
shift_again Lsr e = refl
shift_again Asr e = refl
shift_again Ror e = refl
shift_again Rrx e = (cc)

pub two_bits : (kind : Shift) → shift_number kind < 2 ^ 2
two_bits Lsl = omega arith
two_bits Lsr = omega arith
two_bits Asr = omega arith
two_bits Ror = omega arith
two_bits Rrx = omega arith

pub shift_by_coded : (i : ShiftByFields) → IsGiven (instr.ShiftBy i) → has_full (instr.ShiftBy i) ≡ true → IsCoded (instr.ShiftBy i)
unfolding full_rows has_full
shift_by_coded i formed e =
    let r = formed.registers in
    coded 28 (shift_number i.kind, (one_if i.s, (i.n, (i.d, (i.m, tt))))) _ refl refl
    (two_bits i.kind, (one_bit i.s, (four_bits i.n r.1, (four_bits i.d r.0, (four_bits i.m r.2, tt)))))
    (plain_takes (i.d ∷ i.n ∷ i.m ∷ []) _ _ (r.0, (r.1, (r.2, tt))) e (rw (shift_again i.kind formed.fields, bit_again i.s) (taken (goes_by_register i.kind) (instr.ShiftBy i) formed.fields)))

mul_of : (s : Bool) (d n m : ℕ) → s ≡ false → d ≤ 14 → n ≤ 14 → m ≤ 14 → lacks_sp (d ∷ n ∷ m ∷ []) ≡ true → IsCoded (instr.Mul (record { s = s; d = d; n = n; m = m }))
unfolding full_rows product
mul_of true d n m sets ld ln lm e = absurd (cc)
mul_of false d n m sets ld ln lm e =
    coded 38 (n, (15, (d, (m, tt)))) _ refl refl (four_bits n ln, (omega arith, (four_bits d ld, (four_bits m lm, tt))))
    (plain_takes (d ∷ n ∷ m ∷ []) _ _ (ld, (ln, (lm, tt))) e refl)

mul_acc_of : (minus : Bool) (d n m a : ℕ) → d ≤ 14 → n ≤ 14 → m ≤ 14 → a ≤ 14 → lacks_sp (d ∷ n ∷ m ∷ a ∷ []) ≡ true → IsCoded (instr.MulAcc (record { minus = minus; d = d; n = n; m = m; a = a }))
unfolding full_rows product
mul_acc_of false d n m a ld ln lm la e =
    coded 38 (n, (a, (d, (m, tt)))) _ refl refl (four_bits n ln, (four_bits a la, (four_bits d ld, (four_bits m lm, tt))))
    (if_false (a == 15) _ _ (no_pc a la) ∙ plain_takes (d ∷ n ∷ m ∷ a ∷ []) _ _ (ld, (ln, (lm, (la, tt)))) e refl)
mul_acc_of true d n m a ld ln lm la e =
    coded 39 (n, (a, (d, (m, tt)))) _ refl refl (four_bits n ln, (four_bits a la, (four_bits d ld, (four_bits m lm, tt))))
    (plain_takes (d ∷ n ∷ m ∷ a ∷ []) _ _ (ld, (ln, (lm, (la, tt)))) e refl)

long_mul_of : (op : LongMulOp) (lo hi n m : ℕ) → lo ≤ 14 → hi ≤ 14 → n ≤ 14 → m ≤ 14 → not (lo == hi) ≡ true → lacks_sp (lo ∷ hi ∷ n ∷ m ∷ []) ≡ true
    → IsCoded (instr.LongMul (record { op = op; lo = lo; hi = hi; n = n; m = m }))
unfolding full_rows
long_mul_of Smull lo hi n m a b c d f e = coded 40 (n, (lo, (hi, (m, tt)))) _ refl refl (four_bits n c, (four_bits lo a, (four_bits hi b, (four_bits m d, tt)))) (plain_takes (lo ∷ hi ∷ n ∷ m ∷ []) _ _ (a, (b, (c, (d, tt)))) e (taken (not (lo == hi)) _ f))
long_mul_of Umull lo hi n m a b c d f e = coded 41 (n, (lo, (hi, (m, tt)))) _ refl refl (four_bits n c, (four_bits lo a, (four_bits hi b, (four_bits m d, tt)))) (plain_takes (lo ∷ hi ∷ n ∷ m ∷ []) _ _ (a, (b, (c, (d, tt)))) e (taken (not (lo == hi)) _ f))
long_mul_of Smlal lo hi n m a b c d f e = coded 42 (n, (lo, (hi, (m, tt)))) _ refl refl (four_bits n c, (four_bits lo a, (four_bits hi b, (four_bits m d, tt)))) (plain_takes (lo ∷ hi ∷ n ∷ m ∷ []) _ _ (a, (b, (c, (d, tt)))) e (taken (not (lo == hi)) _ f))
long_mul_of Umlal lo hi n m a b c d f e = coded 43 (n, (lo, (hi, (m, tt)))) _ refl refl (four_bits n c, (four_bits lo a, (four_bits hi b, (four_bits m d, tt)))) (plain_takes (lo ∷ hi ∷ n ∷ m ∷ []) _ _ (a, (b, (c, (d, tt)))) e (taken (not (lo == hi)) _ f))

div_of : (signed : Bool) (d n m : ℕ) → d ≤ 14 → n ≤ 14 → m ≤ 14 → lacks_sp (d ∷ n ∷ m ∷ []) ≡ true → IsCoded (instr.Div (record { signed = signed; d = d; n = n; m = m }))
unfolding full_rows
div_of true d n m ld ln lm e = coded 44 (n, (d, (m, tt))) _ refl refl (four_bits n ln, (four_bits d ld, (four_bits m lm, tt))) (plain_takes (d ∷ n ∷ m ∷ []) _ _ (ld, (ln, (lm, tt))) e refl)
div_of false d n m ld ln lm e = coded 45 (n, (d, (m, tt))) _ refl refl (four_bits n ln, (four_bits d ld, (four_bits m lm, tt))) (plain_takes (d ∷ n ∷ m ∷ []) _ _ (ld, (ln, (lm, tt))) e refl)

pub mul_coded : (i : MulFields) → IsGiven (instr.Mul i) → has_full (instr.Mul i) ≡ true → IsCoded (instr.Mul i)
unfolding has_full
mul_coded i f e =
    let both = and_parts (not i.s) (lacks_sp (i.d ∷ i.n ∷ i.m ∷ [])) e in
    mul_of i.s i.d i.n i.m (not_true i.s both.0) f.registers.0 f.registers.1 f.registers.2 both.1

pub mul_acc_coded : (i : MulAccFields) → IsGiven (instr.MulAcc i) → has_full (instr.MulAcc i) ≡ true → IsCoded (instr.MulAcc i)
unfolding has_full
mul_acc_coded i f e = mul_acc_of i.minus i.d i.n i.m i.a f.registers.0 f.registers.1 f.registers.2 f.registers.3 e

pub long_mul_coded : (i : LongMulFields) → IsGiven (instr.LongMul i) → has_full (instr.LongMul i) ≡ true → IsCoded (instr.LongMul i)
unfolding has_full
long_mul_coded i f e = long_mul_of i.op i.lo i.hi i.n i.m f.registers.0 f.registers.1 f.registers.2 f.registers.3 f.fields e

pub div_coded : (i : DivFields) → IsGiven (instr.Div i) → has_full (instr.Div i) ≡ true → IsCoded (instr.Div i)
unfolding has_full
div_coded i f e = div_of i.signed i.d i.n i.m f.registers.0 f.registers.1 f.registers.2 e

-- SXTH and its like
turned : (turn : ℕ) → ((turn == 0) || (true && ((turn == 8) || (turn == 16) || (turn == 24)))) ≡ true → 8 * (turn / 8) ≡ turn
turned turn e = grind (arith, nat_tests)

turn_is_small : (turn : ℕ) → ((turn == 0) || (true && ((turn == 8) || (turn == 16) || (turn == 24)))) ≡ true → turn / 8 < 2 ^ 2
turn_is_small turn e = grind (arith, nat_tests)

left_of : (a x y : Bool) → x ≡ false → (a || (x && y)) ≡ true → a ≡ true
left_of true x y e f = refl
left_of false true y e f = (cc)
left_of false false y e f = f

itself : (m : ℕ) → not (m == m) ≡ false
itself m = rw (eq-eqb m m refl) refl

twice_lacks : (d m : ℕ) → lacks_sp (d ∷ m ∷ []) ≡ true → lacks_sp (d ∷ m ∷ m ∷ []) ≡ true
twice_lacks d m e = grind (arith, nat_tests)

-- The extended register stands in the low bits, its turn above it.
sxth_of : (d m turn : ℕ) → d ≤ 14 → m ≤ 14 → is_turn Sxth turn ≡ true → lacks_sp (d ∷ m ∷ []) ≡ true → IsCoded (instr.Unary (record { op = Sxth; d = d; m = m; turn = turn }))
unfolding full_rows
sxth_of d m turn ld lm f e = coded 29 (d, (turn / 8, (m, tt))) _ refl refl (four_bits d ld, (turn_is_small turn f, (four_bits m lm, tt)))
    (plain_takes (d ∷ m ∷ []) _ _ (ld, (lm, tt)) e (rw (turned turn f) (taken (is_turn Sxth turn) (instr.Unary (record { op = Sxth; d = d; m = m; turn = turn })) f)))

uxth_of : (d m turn : ℕ) → d ≤ 14 → m ≤ 14 → is_turn Uxth turn ≡ true → lacks_sp (d ∷ m ∷ []) ≡ true → IsCoded (instr.Unary (record { op = Uxth; d = d; m = m; turn = turn }))
unfolding full_rows
uxth_of d m turn ld lm f e = coded 30 (d, (turn / 8, (m, tt))) _ refl refl (four_bits d ld, (turn_is_small turn f, (four_bits m lm, tt)))
    (plain_takes (d ∷ m ∷ []) _ _ (ld, (lm, tt)) e (rw (turned turn f) (taken (is_turn Uxth turn) (instr.Unary (record { op = Uxth; d = d; m = m; turn = turn })) f)))

sxtb_of : (d m turn : ℕ) → d ≤ 14 → m ≤ 14 → is_turn Sxtb turn ≡ true → lacks_sp (d ∷ m ∷ []) ≡ true → IsCoded (instr.Unary (record { op = Sxtb; d = d; m = m; turn = turn }))
unfolding full_rows
sxtb_of d m turn ld lm f e = coded 31 (d, (turn / 8, (m, tt))) _ refl refl (four_bits d ld, (turn_is_small turn f, (four_bits m lm, tt)))
    (plain_takes (d ∷ m ∷ []) _ _ (ld, (lm, tt)) e (rw (turned turn f) (taken (is_turn Sxtb turn) (instr.Unary (record { op = Sxtb; d = d; m = m; turn = turn })) f)))

uxtb_of : (d m turn : ℕ) → d ≤ 14 → m ≤ 14 → is_turn Uxtb turn ≡ true → lacks_sp (d ∷ m ∷ []) ≡ true → IsCoded (instr.Unary (record { op = Uxtb; d = d; m = m; turn = turn }))
unfolding full_rows
uxtb_of d m turn ld lm f e = coded 32 (d, (turn / 8, (m, tt))) _ refl refl (four_bits d ld, (turn_is_small turn f, (four_bits m lm, tt)))
    (plain_takes (d ∷ m ∷ []) _ _ (ld, (lm, tt)) e (rw (turned turn f) (taken (is_turn Uxtb turn) (instr.Unary (record { op = Uxtb; d = d; m = m; turn = turn })) f)))

not_turned : (op : UnaryOp) (turn : ℕ) → is_extension op ≡ false → is_turn op turn ≡ true → 0 ≡ turn
not_turned op turn e f = sym (eqb-true turn 0 (left_of (turn == 0) (is_extension op) ((turn == 8) || (turn == 16) || (turn == 24)) e f))

order_takes : (op : UnaryOp) (d m turn : ℕ) → d ≤ 14 → m ≤ 14 → is_extension op ≡ false → is_turn op turn ≡ true → lacks_sp (d ∷ m ∷ []) ≡ true
    → on_plain (d ∷ m ∷ m ∷ []) (refused ((not (m == m), Unpredictable) ∷ []) (unary op d m 0)) ≡ Ok (instr.Unary (record { op = op; d = d; m = m; turn = turn }))
order_takes op d m turn ld lm x f e =
    plain_takes (d ∷ m ∷ m ∷ []) _ _ (ld, (lm, (lm, tt))) (twice_lacks d m e)
    (passed (not (m == m)) _ _ _ (itself m) (subst (λ (t : ℕ). unary op d m 0 ≡ Ok (instr.Unary (record { op = op; d = d; m = m; turn = t }))) (not_turned op turn x f) (taken (is_turn op 0) _ refl)))

rev_of : (d m turn : ℕ) → d ≤ 14 → m ≤ 14 → is_turn Rev turn ≡ true → lacks_sp (d ∷ m ∷ []) ≡ true → IsCoded (instr.Unary (record { op = Rev; d = d; m = m; turn = turn }))
unfolding full_rows
rev_of d m turn ld lm f e = coded 33 (m, (d, (m, tt))) _ refl refl (four_bits m lm, (four_bits d ld, (four_bits m lm, tt))) (order_takes Rev d m turn ld lm refl f e)

rev16_of : (d m turn : ℕ) → d ≤ 14 → m ≤ 14 → is_turn Rev16 turn ≡ true → lacks_sp (d ∷ m ∷ []) ≡ true → IsCoded (instr.Unary (record { op = Rev16; d = d; m = m; turn = turn }))
unfolding full_rows
rev16_of d m turn ld lm f e = coded 34 (m, (d, (m, tt))) _ refl refl (four_bits m lm, (four_bits d ld, (four_bits m lm, tt))) (order_takes Rev16 d m turn ld lm refl f e)

rbit_of : (d m turn : ℕ) → d ≤ 14 → m ≤ 14 → is_turn Rbit turn ≡ true → lacks_sp (d ∷ m ∷ []) ≡ true → IsCoded (instr.Unary (record { op = Rbit; d = d; m = m; turn = turn }))
unfolding full_rows
rbit_of d m turn ld lm f e = coded 35 (m, (d, (m, tt))) _ refl refl (four_bits m lm, (four_bits d ld, (four_bits m lm, tt))) (order_takes Rbit d m turn ld lm refl f e)

revsh_of : (d m turn : ℕ) → d ≤ 14 → m ≤ 14 → is_turn Revsh turn ≡ true → lacks_sp (d ∷ m ∷ []) ≡ true → IsCoded (instr.Unary (record { op = Revsh; d = d; m = m; turn = turn }))
unfolding full_rows
revsh_of d m turn ld lm f e = coded 36 (m, (d, (m, tt))) _ refl refl (four_bits m lm, (four_bits d ld, (four_bits m lm, tt))) (order_takes Revsh d m turn ld lm refl f e)

clz_of : (d m turn : ℕ) → d ≤ 14 → m ≤ 14 → is_turn Clz turn ≡ true → lacks_sp (d ∷ m ∷ []) ≡ true → IsCoded (instr.Unary (record { op = Clz; d = d; m = m; turn = turn }))
unfolding full_rows
clz_of d m turn ld lm f e = coded 37 (m, (d, (m, tt))) _ refl refl (four_bits m lm, (four_bits d ld, (four_bits m lm, tt))) (order_takes Clz d m turn ld lm refl f e)

unary_of : (op : UnaryOp) (d m turn : ℕ) → d ≤ 14 → m ≤ 14 → is_turn op turn ≡ true → lacks_sp (d ∷ m ∷ []) ≡ true → IsCoded (instr.Unary (record { op = op; d = d; m = m; turn = turn }))
unary_of Sxth d m turn ld lm f e = sxth_of d m turn ld lm f e
unary_of Uxth d m turn ld lm f e = uxth_of d m turn ld lm f e
unary_of Sxtb d m turn ld lm f e = sxtb_of d m turn ld lm f e
unary_of Uxtb d m turn ld lm f e = uxtb_of d m turn ld lm f e
unary_of Rev d m turn ld lm f e = rev_of d m turn ld lm f e
unary_of Rev16 d m turn ld lm f e = rev16_of d m turn ld lm f e
unary_of Rbit d m turn ld lm f e = rbit_of d m turn ld lm f e
unary_of Revsh d m turn ld lm f e = revsh_of d m turn ld lm f e
unary_of Clz d m turn ld lm f e = clz_of d m turn ld lm f e

pub unary_coded : (i : UnaryFields) → IsGiven (instr.Unary i) → has_full (instr.Unary i) ≡ true → IsCoded (instr.Unary i)
unfolding has_full
unary_coded i f e = unary_of i.op i.d i.m i.turn f.registers.0 f.registers.1 f.fields e
