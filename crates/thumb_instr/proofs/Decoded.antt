-- What is told of the instructions that halfwords stand for.
use Rattle.std.proofs.Common.{◌≡◌, ◌*◌, ◌+◌, ◌^◌, ℕ, Bool, true, false, Ok, refl, arith, ap}
use Rattle.std.specs.Prelude.{◌==◌, ◌&&◌, ◌||◌, if◌then◌else◌}
use Rattle.std.proofs.lemmas.Bool.Decides.{nat_tests}
use Rattle.mark_word.specs.declared.numbers.Shift.TheVariants.{Lsl, Lsr, Asr, Ror, Rrx}
use Rattle.thumb_instr.specs.declared.operands.Operand.{Operand}
use Rattle.thumb_instr.specs.declared.operands.Operand.TheVariants.{Imm, Reg}
use Rattle.thumb_instr.specs.declared.refusals.ItPlace.{ItPlace}
use Rattle.thumb_instr.specs.declared.instructions.Instr.{Instr}
use Rattle.thumb_instr.specs.declared.instructions.Instr.TheVariants.{Alu, Move, Test, ShiftBy, Wide, Half, Field, Unary, Mul, MulAcc, LongMul, Div, Access, Pair, Multi, Literal, Adr, Branch, ZeroBranch, Call, Jump, CallReg, It, Nothing, Trap}
use Rattle.thumb_instr.specs.Patterns.{decoded}
use Rattle.thumb_instr.specs.DataRows.{is_rrx}
use Rattle.thumb_instr.specs.Sets.{reads_of, sets_flags_of, operand_reads_of, sums_with_carry}
use Rattle.thumb_instr.specs.HalfRows.{half_rows}
use Rattle.thumb_instr.specs.FullRows.{full_rows}
use Rattle.thumb_instr.specs.Rows.{is_wide, decode}
use Rattle.thumb_instr.specs.Formed.{IsRegister, OperandNamesRegisters, NamesRegisters, IsFormed, is_always_wide}
use Rattle.thumb_instr.proofs.Formed.{Good, Told, carries, decoded_good, first_none, second_none}
use Rattle.thumb_instr.proofs.HalvesFormed.{half_good}
use Rattle.thumb_instr.proofs.FullsFormed.{full_good}

answers : (wide : Bool) (place : ItPlace) (first second : ℕ) → Good wide (if wide then decoded 32 (full_rows place) (first * 2 ^ 16 + second) else decoded 16 (half_rows place) first)
answers true place first second = decoded_good true 32 (full_rows place) (first * 2 ^ 16 + second) (full_good place)
answers false place first second = decoded_good false 16 (half_rows place) first (half_good place)

told : (place : ItPlace) (first second : ℕ) (i : Instr) → decode place first second ≡ Ok i → Told (is_wide first) i
told place first second i e = (answers (is_wide first) place first second).told i e

pub decode_formed : (place : ItPlace) (first second : ℕ) (i : Instr) → decode place first second ≡ Ok i → IsFormed i
decode_formed place first second i e = (told place first second i e).formed

pub decode_wide : (place : ItPlace) (first second : ℕ) (i : Instr) → decode place first second ≡ Ok i → is_wide first ≡ false → is_always_wide i ≡ false
decode_wide place first second i e = (told place first second i e).short

-- C

no_flag : (r : ℕ) → IsRegister r → (18 == r) ≡ false
no_flag r low = grind (arith, nat_tests)

reads_no_carry : (x : Operand) → OperandNamesRegisters x → is_rrx x ≡ false → operand_reads_of x 18 ≡ false
unfolding is_rrx
reads_no_carry (Imm i) names e = refl
reads_no_carry (Reg m Lsl amount) names e = ap (λ (b : Bool). b || false) (no_flag m names)
reads_no_carry (Reg m Lsr amount) names e = ap (λ (b : Bool). b || false) (no_flag m names)
reads_no_carry (Reg m Asr amount) names e = ap (λ (b : Bool). b || false) (no_flag m names)
reads_no_carry (Reg m Ror amount) names e = ap (λ (b : Bool). b || false) (no_flag m names)
reads_no_carry (Reg m Rrx amount) names e = (cc)

left_none : (a b : Bool) → a ≡ false → (a && b) ≡ false
left_none true b e = (cc)
left_none false b e = refl

right_none : (a b : Bool) → b ≡ false → (a && b) ≡ false
right_none true b e = e
right_none false b e = refl

both_none : (a b : Bool) → a ≡ false → b ≡ false → (a || b) ≡ false
both_none true b e f = (cc)
both_none false b e f = f

unset_or_read : (r s t u : Bool) → (s && t) ≡ false → (t ≡ false → r ≡ false) → (r && (s && u)) ≡ false
unset_or_read r true t u e f = left_none r u (f e)
unset_or_read r false t u e f = right_none r false refl

pub carry_once : (i : Instr) → NamesRegisters i → carries i ≡ false → (reads_of i 18 && sets_flags_of i 18) ≡ false
unfolding reads_of sets_flags_of
carry_once (Alu i) names e = unset_or_read _ i.s (sums_with_carry i.op || is_rrx i.x) _ e (λ plain.
    both_none (18 == i.n) _ (no_flag i.n names.1) (both_none (operand_reads_of i.x 18) _ (reads_no_carry i.x names.2 (second_none (sums_with_carry i.op) _ plain)) (left_none (sums_with_carry i.op) true (first_none (sums_with_carry i.op) _ plain))))
carry_once (Move i) names e = unset_or_read _ i.s (is_rrx i.x) _ e (λ plain. reads_no_carry i.x names.1 plain)
carry_once (Test i) names e = left_none _ _ (both_none (18 == i.n) _ (no_flag i.n names.0) (reads_no_carry i.x names.1 e))
carry_once (ShiftBy i) names e = right_none _ _ (right_none i.s false refl)
carry_once (Mul i) names e = right_none _ _ (right_none i.s false refl)
carry_once (Wide i) names e = right_none _ false refl
carry_once (Half i) names e = right_none _ false refl
carry_once (Field i) names e = right_none _ false refl
carry_once (Unary i) names e = right_none _ false refl
carry_once (MulAcc i) names e = right_none _ false refl
carry_once (LongMul i) names e = right_none _ false refl
carry_once (Div i) names e = right_none _ false refl
carry_once (Access i) names e = right_none _ false refl
carry_once (Pair i) names e = right_none _ false refl
carry_once (Multi i) names e = right_none _ false refl
carry_once (Literal i) names e = refl
carry_once (Adr i) names e = refl
carry_once (Branch i) names e = refl
carry_once (ZeroBranch i) names e = right_none _ false refl
carry_once (Call i) names e = refl
carry_once (Jump i) names e = right_none _ false refl
carry_once (CallReg i) names e = right_none _ false refl
carry_once (It i) names e = refl
carry_once (Nothing i) names e = refl
carry_once (Trap i) names e = refl

pub decode_carry : (place : ItPlace) (first second : ℕ) (i : Instr) → decode place first second ≡ Ok i → (reads_of i 18 && sets_flags_of i 18) ≡ false
decode_carry place first second i e = let t = told place first second i e in carry_once i t.formed.registers t.carry
