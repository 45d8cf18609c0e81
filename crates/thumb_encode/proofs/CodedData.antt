-- Instructions that the test takes have a code of two halfwords: data processing.
use Rattle.std.proofs.Common.{◌≡◌, ℕ, ◌+◌, ◌*◌, ◌/◌, ◌%◌, ◌^◌, ◌<◌, ◌≤◌, Bool, true, false, refl, ap, sym, ◌∙◌, subst, arith, Ok, ◌==◌, ◌&&◌, ◌||◌, not, nat_lt, if◌then◌else◌}
use Rattle.std.proofs.lemmas.Bool.{and_parts, eqb-true, ltb-true}
use Rattle.std.proofs.lemmas.Bool.Decides.{nat_tests}
use Rattle.mark_word.specs.declared.numbers.Shift.{Shift}
use Rattle.mark_word.specs.declared.numbers.Shift.TheVariants.{Lsl, Lsr, Asr, Ror, Rrx}
use Rattle.thumb_instr.specs.declared.operations.AluOp.{AluOp}
use Rattle.thumb_instr.specs.declared.operations.AluOp.TheVariants.{And, Bic, Orr, Orn, Eor, Add, Adc, Sbc, Sub, Rsb}
use Rattle.thumb_instr.specs.declared.operations.MoveOp.{MoveOp}
use Rattle.thumb_instr.specs.declared.operations.MoveOp.TheVariants.{Mov, Mvn}
use Rattle.thumb_instr.specs.declared.operations.TestOp.{TestOp}
use Rattle.thumb_instr.specs.declared.operations.TestOp.TheVariants.{Tst, Teq, Cmn, Cmp}
use Rattle.thumb_instr.specs.declared.operands.Operand.{Operand}
use Rattle.thumb_instr.specs.declared.operands.Operand.TheVariants.{Imm, Reg}
use Rattle.thumb_instr.specs.declared.instructions.Instr.{Instr}
use Rattle.thumb_instr.specs.declared.instructions.Instr.TheVariants as instr
use Rattle.thumb_instr.specs.Fields.{AluFields, MoveFields, TestFields}
use Rattle.thumb_instr.specs.Operands.{takes_amount, has_constant, is_operand}
use Rattle.thumb_instr.specs.Sets.{sums_with_carry}
use Rattle.thumb_instr.specs.Meanings.{zero_as_32}
use Rattle.thumb_instr.specs.DataRows.{names, is_rrx, has_odd_sp, alu_row, is_copy, move_row, takes_sp, test_row, or_test, or_move, data_processing, shifted}
use Rattle.thumb_instr.specs.FullRows.{full_rows}
use Rattle.thumb_instr.specs.Formed.{OperandNamesRegisters}
use Rattle.thumb_encode.specs.HalfCodes.{shift_number}
use Rattle.mark_word.specs.Formulas.{one_if}
use Rattle.thumb_encode.specs.FullCodes.{alu_number, move_number, test_number}
use Rattle.thumb_encode.specs.HasFull.{has_full}
use Rattle.thumb_encode.proofs.Covering.{if_false}
use Rattle.thumb_encode.proofs.Putting.{IsGiven, IsCoded, coded}
use Rattle.thumb_encode.proofs.Coded.{four_bits, two_bits, no_pc, one_bit, bit_again, neither, not_true, not_false, taken, passed}

-- operands

from_32 : (amount : ℕ) → (nat_lt 0 amount && nat_lt amount 33) ≡ true → zero_as_32 (amount % 32) ≡ amount
from_32 amount e = grind (arith, nat_tests)

not_zero : (amount : ℕ) → (nat_lt 0 amount && nat_lt amount 32) ≡ true → (amount % 32 == 0) ≡ false
not_zero amount e = grind (arith, nat_tests)

below_32 : (amount : ℕ) → (nat_lt 0 amount && nat_lt amount 32) ≡ true → amount % 32 ≡ amount
below_32 amount e = grind (arith, nat_tests)

five_again : (m : ℕ) (kind : Shift) (amount : ℕ) → takes_amount kind amount ≡ true → shifted m (shift_number kind) (amount % 32) ≡ Reg m kind amount
unfolding shifted
five_again m Lsl amount e = let less = ltb-true amount 32 e in let again : amount % 32 ≡ amount = omega arith in ap (Reg m Lsl) again
five_again m Lsr amount e = ap (Reg m Lsr) (from_32 amount e)
five_again m Asr amount e = ap (Reg m Asr) (from_32 amount e)
five_again m Ror amount e = if_false (amount % 32 == 0) _ _ (not_zero amount e) ∙ ap (Reg m Ror) (below_32 amount e)
five_again m Rrx amount e =
    subst (λ (a : ℕ). shifted m 3 (a % 32) ≡ Reg m Rrx a) (sym (eqb-true amount 0 e)) refl

in_two_parts : (amount : ℕ) → 4 * (amount % 32 / 4) + amount % 32 % 4 ≡ amount % 32
in_two_parts amount = omega arith

pub below_4096 : (imm : ℕ) → has_constant imm ≡ true → imm < 4096
below_4096 imm e = let both = and_parts (nat_lt imm 4096) (nat_lt imm 256 || nat_lt 1023 imm || nat_lt 0 (imm % 256)) e in ltb-true imm 4096 both.0

pub in_three_parts : (imm : ℕ) → imm < 4096 → 2048 * (imm / 2048) + 256 * (imm / 256 % 8) + imm % 256 ≡ imm
in_three_parts imm less = omega arith

data_of : (o : ℕ) (s : Bool) (n d : ℕ) (x : Operand) (i : Instr) → o < 2 ^ 4 → n < 2 ^ 4 → d < 2 ^ 4 → OperandNamesRegisters x → is_operand x ≡ true → data_processing o s n d x ≡ Ok i → IsCoded i
unfolding full_rows
data_of o s n d (Imm imm) i lo ln ld names e answer =
    let less = below_4096 imm e in
    coded 4 (imm / 2048, (o, (one_if s, (n, (imm / 256 % 8, (d, (imm % 256, tt))))))) i refl refl
    (omega arith, (lo, (one_bit s, (ln, (omega arith, (ld, (omega arith, tt)))))))
    (ap (λ (b : Bool). data_processing o b n d (Imm (2048 * (imm / 2048) + 256 * (imm / 256 % 8) + imm % 256))) (bit_again s)
    ∙ ap (λ (k : ℕ). data_processing o s n d (Imm k)) (in_three_parts imm less) ∙ answer)
data_of o s n d (Reg m kind amount) i lo ln ld names e answer =
    coded 3 (o, (one_if s, (n, (amount % 32 / 4, (d, (amount % 32 % 4, (shift_number kind, (m, tt)))))))) i refl refl
    (lo, (one_bit s, (ln, (omega arith, (ld, (omega arith, (two_bits kind, (four_bits m names, tt))))))))
    (ap (λ (b : Bool). data_processing o b n d (shifted m (shift_number kind) (4 * (amount % 32 / 4) + amount % 32 % 4))) (bit_again s)
    ∙ ap (λ (k : ℕ). data_processing o s n d (shifted m (shift_number kind) k)) (in_two_parts amount)
    ∙ ap (data_processing o s n d) (five_again m kind amount e) ∙ answer)

names_no_pc : (x : Operand) → OperandNamesRegisters x → names 15 x ≡ false
unfolding names
names_no_pc (Imm imm) low = refl
names_no_pc (Reg m kind amount) low = no_pc m low

-- operations

none : (s b : Bool) → b ≡ false → (s && b) ≡ false
none true b e = e
none false b e = refl

alu_is : (op : AluOp) (s : Bool) (n d : ℕ) (x : Operand) → n ≤ 14 → d ≤ 14 → data_processing (alu_number op) s n d x ≡ alu_row op s n d x
unfolding data_processing or_test or_move
alu_is And s n d x ln ld = if_false (s && (d == 15)) _ _ (none s (d == 15) (no_pc d ld))
alu_is Bic s n d x ln ld = refl
alu_is Orr s n d x ln ld = if_false (n == 15) _ _ (no_pc n ln)
alu_is Orn s n d x ln ld = if_false (n == 15) _ _ (no_pc n ln)
alu_is Eor s n d x ln ld = if_false (s && (d == 15)) _ _ (none s (d == 15) (no_pc d ld))
alu_is Add s n d x ln ld = if_false (s && (d == 15)) _ _ (none s (d == 15) (no_pc d ld))
alu_is Adc s n d x ln ld = refl
alu_is Sbc s n d x ln ld = refl
alu_is Sub s n d x ln ld = if_false (s && (d == 15)) _ _ (none s (d == 15) (no_pc d ld))
alu_is Rsb s n d x ln ld = refl

alu_is_small : (op : AluOp) → alu_number op < 2 ^ 4
alu_is_small And = omega arith
alu_is_small Bic = omega arith
alu_is_small Orr = omega arith
alu_is_small Orn = omega arith
alu_is_small Eor = omega arith
alu_is_small Add = omega arith
alu_is_small Adc = omega arith
alu_is_small Sbc = omega arith
alu_is_small Sub = omega arith
alu_is_small Rsb = omega arith

alu_takes : (i : AluFields) → IsGiven (instr.Alu i) → has_full (instr.Alu i) ≡ true → alu_row i.op i.s i.n i.d i.x ≡ Ok (instr.Alu i)
unfolding has_full alu_row
alu_takes i f e =
    let both = and_parts (not (has_odd_sp i.op i.d i.n i.x)) (not (i.s && (sums_with_carry i.op || is_rrx i.x))) e in
    passed _ _ _ _ (neither ((i.d == 15) || (i.n == 15)) (names 15 i.x) (neither (i.d == 15) (i.n == 15) (no_pc i.d f.registers.0) (no_pc i.n f.registers.1)) (names_no_pc i.x f.registers.2))
    (passed _ _ _ _ (neither (has_odd_sp i.op i.d i.n i.x) (not (is_operand i.x)) (not_true _ both.0) (not_false (is_operand i.x) f.fields))
    (passed _ _ _ _ (not_true _ both.1) (taken (is_operand i.x) _ f.fields)))

pub alu_coded : (i : AluFields) → IsGiven (instr.Alu i) → has_full (instr.Alu i) ≡ true → IsCoded (instr.Alu i)
alu_coded i f e =
    let r = f.registers in
    data_of (alu_number i.op) i.s i.n i.d i.x _ (alu_is_small i.op) (four_bits i.n r.1) (four_bits i.d r.0) r.2 f.fields (alu_is i.op i.s i.n i.d i.x r.1 r.0 ∙ alu_takes i f e)

move_is : (op : MoveOp) (s : Bool) (d : ℕ) (x : Operand) → data_processing (move_number op) s 15 d x ≡ move_row op s d x
unfolding data_processing or_move
move_is Mov s d x = refl
move_is Mvn s d x = refl

move_is_small : (op : MoveOp) → move_number op < 2 ^ 4
move_is_small Mov = omega arith
move_is_small Mvn = omega arith

move_takes : (i : MoveFields) → IsGiven (instr.Move i) → has_full (instr.Move i) ≡ true → move_row i.op i.s i.d i.x ≡ Ok (instr.Move i)
unfolding has_full move_row
move_takes i f e =
    let odd = if is_copy i.op i.s i.x then (i.d == 13) && names 13 i.x else (i.d == 13) || names 13 i.x in
    let both = and_parts (not odd) (not (i.s && is_rrx i.x)) e in
    passed _ _ _ _ (neither (i.d == 15) (names 15 i.x) (no_pc i.d f.registers.0) (names_no_pc i.x f.registers.1))
    (passed _ _ _ _ (neither odd (not (is_operand i.x)) (not_true odd both.0) (not_false (is_operand i.x) f.fields))
    (passed _ _ _ _ (not_true _ both.1) (taken (is_operand i.x) _ f.fields)))

pub move_coded : (i : MoveFields) → IsGiven (instr.Move i) → has_full (instr.Move i) ≡ true → IsCoded (instr.Move i)
move_coded i f e =
    data_of (move_number i.op) i.s 15 i.d i.x _ (move_is_small i.op) (omega arith) (four_bits i.d f.registers.0) f.registers.1 f.fields (move_is i.op i.s i.d i.x ∙ move_takes i f e)

test_is : (op : TestOp) (n : ℕ) (x : Operand) → data_processing (test_number op) true n 15 x ≡ test_row op n x
unfolding data_processing or_test
test_is Tst n x = refl
test_is Teq n x = refl
test_is Cmn n x = refl
test_is Cmp n x = refl

test_is_small : (op : TestOp) → test_number op < 2 ^ 4
test_is_small Tst = omega arith
test_is_small Teq = omega arith
test_is_small Cmn = omega arith
test_is_small Cmp = omega arith

test_takes : (i : TestFields) → IsGiven (instr.Test i) → has_full (instr.Test i) ≡ true → test_row i.op i.n i.x ≡ Ok (instr.Test i)
unfolding has_full test_row
test_takes i f e =
    let odd = (i.n == 13) && not (takes_sp i.op) in
    let both = and_parts (not odd && not (names 13 i.x)) (not (is_rrx i.x)) e in
    let first = and_parts (not odd) (not (names 13 i.x)) both.0 in
    passed _ _ _ _ (neither (i.n == 15) (names 15 i.x) (no_pc i.n f.registers.0) (names_no_pc i.x f.registers.1))
    (passed _ _ _ _ (neither (odd || names 13 i.x) (not (is_operand i.x)) (neither odd (names 13 i.x) (not_true odd first.0) (not_true (names 13 i.x) first.1)) (not_false (is_operand i.x) f.fields))
    (passed _ _ _ _ (not_true _ both.1) (taken (is_operand i.x) _ f.fields)))

pub test_coded : (i : TestFields) → IsGiven (instr.Test i) → has_full (instr.Test i) ≡ true → IsCoded (instr.Test i)
test_coded i f e =
    data_of (test_number i.op) true i.n 15 i.x _ (test_is_small i.op) (four_bits i.n f.registers.0) (omega arith) f.registers.1 f.fields (test_is i.op i.n i.x ∙ test_takes i f e)
