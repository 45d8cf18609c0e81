-- Worked values of the formulas.
use Rattle.std.proofs.Common.{◌≡◌, ℕ, Bool, true, false, List, [], ◌∷◌, Some, None, Ok, Err, refl}
use Rattle.mark_word.specs.declared.numbers.Shift.TheVariants.{Lsl, Lsr}
use Rattle.mark_word.specs.declared.marks.Mark.TheVariants.{Entry}
use Rattle.mark_word.specs.Words.{Word, plain}
use Rattle.thumb_instr.specs.declared.operations.AluOp.TheVariants as alu
use Rattle.thumb_instr.specs.declared.operations.MoveOp.TheVariants.{Mov}
use Rattle.thumb_instr.specs.declared.operations.TestOp.TheVariants.{Cmp, Tst}
use Rattle.thumb_instr.specs.declared.operations.FieldOp.TheVariants.{Bfi}
use Rattle.thumb_instr.specs.declared.operations.UnaryOp.TheVariants.{Sxth, Sxtb, Uxtb, Rev, Rev16, Revsh, Rbit, Clz}
use Rattle.thumb_instr.specs.declared.operations.LongMulOp.TheVariants.{Smull, Umull, Smlal, Umlal}
use Rattle.thumb_instr.specs.declared.operands.Operand.TheVariants.{Imm, Reg}
use Rattle.thumb_instr.specs.declared.instructions.Instr.TheVariants as instr
use Rattle.thumb_table.specs.declared.faults.FaultKind.TheVariants as fault
use Rattle.thumb_table.specs.States.{Core, Site, unchanged}
use Rattle.thumb_table.specs.Values.{Given, Computed, computed, tested, extended, field_of, with_field, unary, rotated, long_product, quotient, signed_quotient, moved}
use Rattle.thumb_table.specs.Effects.{change, plain_write, writing}

abbrev of : ℕ → Given
of n = record { value = n; carry = None }

abbrev sum : ℕ → Bool → Bool → Computed
sum value carry overflow = record { value = value; carry = Some carry; overflow = Some overflow }

add-carries : computed alu.Add 0xFFFFFFFF (of 1) true ≡ sum 0 true false
add-carries = refl

add-overflows : computed alu.Add 0x7FFFFFFF (of 1) false ≡ sum 0x80000000 false true
add-overflows = refl

adc-carries : computed alu.Adc 0xFFFFFFFF (of 0) true ≡ sum 0 true false
adc-carries = refl

adc-overflows : computed alu.Adc 0x7FFFFFFF (of 0) true ≡ sum 0x80000000 false true
adc-overflows = refl

-- a borrow clears the carry
sub-borrows : computed alu.Sub 0 (of 1) false ≡ sum 0xFFFFFFFF false false
sub-borrows = refl

sub-overflows : computed alu.Sub 0x80000000 (of 1) false ≡ sum 0x7FFFFFFF true true
sub-overflows = refl

rsb-borrows : computed alu.Rsb 1 (of 0) false ≡ sum 0xFFFFFFFF false false
rsb-borrows = refl

rsb-overflows : computed alu.Rsb 0x80000000 (of 0) false ≡ sum 0x80000000 false true
rsb-overflows = refl

sbc-borrows : computed alu.Sbc 0 (of 0) false ≡ sum 0xFFFFFFFF false false
sbc-borrows = refl

sbc-equal : computed alu.Sbc 5 (of 5) true ≡ sum 0 true false
sbc-equal = refl

cmp-equal : computed (tested Cmp) 5 (of 5) false ≡ sum 0 true false
cmp-equal = refl

-- a logical operation has the operand's carry, if there is one
bic-carries : computed alu.Bic 0xFF (record { value = 0x0F; carry = Some true }) false ≡ record { value = 0xF0; carry = Some true; overflow = None }
bic-carries = refl

orn-turns : computed alu.Orn 0 (of 0xFFFFFFFE) true ≡ record { value = 1; carry = None; overflow = None }
orn-turns = refl

field-signed : extended 8 (field_of 4 8 0xFF0) ≡ 0xFFFFFFFF
field-signed = refl

field-positive : extended 8 (field_of 4 8 0x7F0) ≡ 0x7F
field-positive = refl

field-whole : extended 32 (field_of 0 32 0x80000000) ≡ 0x80000000
field-whole = refl

field-inserted : with_field 8 8 0xAB 0x11223344 ≡ 0x1122AB44
field-inserted = refl

field-cleared : with_field 28 4 0 0xFFFFFFFF ≡ 0x0FFFFFFF
field-cleared = refl

rev : unary Rev 0x01020304 ≡ 0x04030201
rev = refl

rev16 : unary Rev16 0x01020304 ≡ 0x02010403
rev16 = refl

revsh : unary Revsh 0x12340080 ≡ 0xFFFF8000
revsh = refl

rbit : unary Rbit 0x0000000D ≡ 0xB0000000
rbit = refl

clz-none : unary Clz 0 ≡ 32
clz-none = refl

clz-some : unary Clz 0x00010000 ≡ 15
clz-some = refl

uxtb-turned : unary Uxtb (rotated 0x11223344 8) ≡ 0x33
uxtb-turned = refl

sxth-turned : unary Sxth (rotated 0x80001234 16) ≡ 0xFFFF8000
sxth-turned = refl

sxtb-turned : unary Sxtb (rotated 0x80001234 24) ≡ 0xFFFFFF80
sxtb-turned = refl

smull : long_product Smull 0xFFFFFFFF 2 7 ≡ 0xFFFFFFFFFFFFFFFE
smull = refl

umull : long_product Umull 0xFFFFFFFF 2 7 ≡ 0x1FFFFFFFE
umull = refl

smlal : long_product Smlal 0xFFFFFFFF 2 3 ≡ 1
smlal = refl

umlal : long_product Umlal 0xFFFFFFFF 0xFFFFFFFF 0xFFFFFFFFFFFFFFFF ≡ 0xFFFFFFFE00000000
umlal = refl

sdiv-overflows : signed_quotient 0x80000000 0xFFFFFFFF ≡ 0x80000000
sdiv-overflows = refl

sdiv-towards-zero : signed_quotient 0xFFFFFFF9 2 ≡ 0xFFFFFFFD
sdiv-towards-zero = refl

sdiv-by-zero : signed_quotient 0xFFFFFFF9 0 ≡ 0
sdiv-by-zero = refl

udiv : quotient 0xFFFFFFF9 2 ≡ 0x7FFFFFFC
udiv = refl

below-zero : moved false 1 2 ≡ 0xFFFFFFFF
below-zero = refl

-- whole changes, at a site without code
abbrev nowhere : Site
nowhere = record { code = record { base = 0; bytes = []; marks = []; stops = [] }; address = 0; width = 2 }

abbrev before : List Word → Core
before regs = record { regs = regs; n = false; z = false; c = true; v = true; it = 0; memory = record { base = 0; cells = [] } }

-- MULS sets N and Z alone
muls : change (instr.Mul (record { s = true; d = 0; n = 0; m = 1 })) nowhere (before (plain 0x80000000 ∷ plain 1 ∷ []))
    ≡ Ok (record (plain_write 0 0x80000000) { n = Some true; z = Some false })
unfolding change
muls = refl

mls : change (instr.MulAcc (record { minus = true; d = 0; n = 0; m = 1; a = 2 })) nowhere (before (plain 3 ∷ plain 5 ∷ plain 10 ∷ []))
    ≡ Ok (plain_write 0 0xFFFFFFFB)
unfolding change
mls = refl

-- the low word first
umull-words : change (instr.LongMul (record { op = Umull; lo = 1; hi = 0; n = 0; m = 1 })) nowhere (before (plain 0xFFFFFFFF ∷ plain 2 ∷ []))
    ≡ Ok (writing ((1, plain 0xFFFFFFFE) ∷ (0, plain 1) ∷ []))
unfolding change
umull-words = refl

-- TST leaves V, and C where its operand is not shifted; CMP sets them
tst : change (instr.Test (record { op = Tst; n = 0; x = Reg 0 Lsl 0 })) nowhere (before (plain 0 ∷ []))
    ≡ Ok (record unchanged { n = Some false; z = Some true })
unfolding change
tst = refl

cmp : change (instr.Test (record { op = Cmp; n = 0; x = Imm 1 })) nowhere (before (plain 0 ∷ []))
    ≡ Ok (record unchanged { n = Some true; z = Some false; c = Some false; v = Some false })
unfolding change
cmp = refl

-- a shift by 0 leaves C; by 32 it is the last bit shifted out, and beyond that 0
lsls-none : change (instr.ShiftBy (record { kind = Lsl; s = true; d = 0; n = 0; m = 1 })) nowhere (before (plain 1 ∷ plain 0x100 ∷ []))
    ≡ Ok (record (plain_write 0 1) { n = Some false; z = Some false })
unfolding change
lsls-none = refl

lsls-32 : change (instr.ShiftBy (record { kind = Lsl; s = true; d = 0; n = 0; m = 1 })) nowhere (before (plain 1 ∷ plain 32 ∷ []))
    ≡ Ok (record (plain_write 0 0) { n = Some false; z = Some true; c = Some true })
unfolding change
lsls-32 = refl

lsrs-33 : change (instr.ShiftBy (record { kind = Lsr; s = true; d = 0; n = 0; m = 1 })) nowhere (before (plain 0xFFFFFFFF ∷ plain 33 ∷ []))
    ≡ Ok (record (plain_write 0 0) { n = Some false; z = Some true; c = Some false })
unfolding change
lsrs-33 = refl

-- a move keeps a mark, a shifted one does not
mov-marked : change (instr.Move (record { op = Mov; s = false; d = 0; x = Reg 1 Lsl 0 })) nowhere (before (plain 0 ∷ record { bits = 9; mark = Entry 9 } ∷ []))
    ≡ Ok (writing ((0, record { bits = 9; mark = Entry 9 }) ∷ []))
unfolding change
mov-marked = refl

mov-shifted : change (instr.Move (record { op = Mov; s = false; d = 0; x = Reg 1 Lsl 1 })) nowhere (before (plain 0 ∷ record { bits = 9; mark = Entry 9 } ∷ []))
    ≡ Ok (plain_write 0 18)
unfolding change
mov-shifted = refl

-- sp stays a multiple of 4
mov-askew : change (instr.Move (record { op = Mov; s = false; d = 13; x = Reg 0 Lsl 0 })) nowhere (before (plain 6 ∷ []))
    ≡ Err fault.BadStack
unfolding change
mov-askew = refl

bfi-changes : change (instr.Field (record { op = Bfi; d = 0; n = Some 1; lsb = 4; width = 4 })) nowhere (before (plain 0x111 ∷ plain 0xAB ∷ []))
    ≡ Ok (plain_write 0 0x1B1)
unfolding change
bfi-changes = refl
