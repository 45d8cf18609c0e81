-- Lines, worked out by hand.
use Rattle.std.proofs.Common.{◌≡◌, codes, pos, negsuc, true, false, Some, None, refl}
use Rattle.std.specs.Fmt.{digits}
use Rattle.thumb_instr.specs.Operands.{has}
use Rattle.mark_word.specs.declared.numbers.Shift.TheVariants.{Lsl, Asr, Rrx}
use Rattle.thumb_instr.specs.declared.operations.AluOp.TheVariants.{Add, Adc, Sub}
use Rattle.thumb_instr.specs.declared.operations.MoveOp.TheVariants.{Mov}
use Rattle.thumb_instr.specs.declared.operations.TestOp.TheVariants.{Cmp}
use Rattle.thumb_instr.specs.declared.operations.FieldOp.TheVariants.{Ubfx, Bfc}
use Rattle.thumb_instr.specs.declared.operations.UnaryOp.TheVariants.{Sxth, Clz}
use Rattle.thumb_instr.specs.declared.operations.AccessOp.TheVariants.{Ldr, Ldrsb, Strb, Str}
use Rattle.thumb_instr.specs.declared.operations.NothingOp.TheVariants.{Nop, Dmb}
use Rattle.thumb_instr.specs.declared.operands.Operand.TheVariants.{Imm, Reg}
use Rattle.thumb_instr.specs.declared.places.Place.TheVariants.{Offset, Pre, Post, Index}
use Rattle.thumb_instr.specs.declared.places.PairIndex.TheVariants.{Offset as PairOffset}
use Rattle.thumb_instr.specs.declared.conditions.Cond.TheVariants.{Eq, Al}
use Rattle.thumb_instr.specs.declared.instructions.Instr.TheVariants.{Alu, Move, Test, Field, Unary, Access, Pair, Multi, Literal, Adr, Branch, ZeroBranch, Jump, It, Nothing}
use Rattle.thumb_text.specs.Pieces.{hex_word, names_of}
use Rattle.thumb_text.specs.Listing.{line_of}

moved : line_of (Move (record { op = Mov; s = true; d = 0; x = Imm 5 })) 0 ≡ codes "00000000  movs r0, #5"
unfolding line_of digits hex_word
moved = refl

turned : line_of (Move (record { op = Mov; s = false; d = 12; x = Imm 0x4FF })) 0xFFFFFFFC ≡ codes "fffffffc  mov r12, #2139095040"
unfolding line_of digits hex_word
turned = refl

jumped : line_of (Jump (record { m = 14 })) 2 ≡ codes "00000002  bx lr"
unfolding line_of digits hex_word
jumped = refl

chosen : line_of (It (record { first = Eq; mask = 8 })) 0 ≡ codes "00000000  it eq, #8"
unfolding line_of digits hex_word
chosen = refl

after : line_of (Access (record { op = Ldrsb; t = 1; n = 3; place = Post true 4 })) 0x1A ≡ codes "0000001a  ldrsb r1, [r3], #4"
unfolding line_of digits hex_word
after = refl

before : line_of (Access (record { op = Str; t = 0; n = 3; place = Pre false 4 })) 0 ≡ codes "00000000  str r0, [r3, #-4]!"
unfolding line_of digits hex_word
before = refl

indexed : line_of (Access (record { op = Strb; t = 0; n = 1; place = Index 2 0 })) 0 ≡ codes "00000000  strb r0, [r1, r2, lsl #0]"
unfolding line_of digits hex_word
indexed = refl

downwards : line_of (Access (record { op = Ldr; t = 0; n = 13; place = Offset false 0 })) 0 ≡ codes "00000000  ldr r0, [sp, #-0]"
unfolding line_of digits hex_word
downwards = refl

paired : line_of (Pair (record { load = true; t = 0; u = 1; n = 3; up = false; imm = 0; index = PairOffset })) 0 ≡ codes "00000000  ldrd r0, r1, [r3, #-0]"
unfolding line_of digits hex_word
paired = refl

popped : line_of (Multi (record { load = true; down = false; back = true; n = 13; list = record { 0 = 16 }; pc = true })) 0 ≡ codes "00000000  ldmia sp!, {r4,pc}"
unfolding line_of digits hex_word has names_of
popped = refl

-- the longest line, of 71 bytes
stored : line_of (Multi (record { load = false; down = true; back = true; n = 12; list = record { 0 = 0x5FFF }; pc = true })) 0 ≡ codes "00000000  stmdb r12!, {r0,r1,r2,r3,r4,r5,r6,r7,r8,r9,r10,r11,r12,lr,pc}"
unfolding line_of digits hex_word has names_of
stored = refl

returned : line_of (Multi (record { load = true; down = false; back = true; n = 13; list = record { 0 = 0 }; pc = true })) 0 ≡ codes "00000000  ldmia sp!, {pc}"
unfolding line_of digits hex_word has names_of
returned = refl

shifted : line_of (Alu (record { op = Add; s = false; d = 0; n = 1; x = Reg 2 Lsl 3 })) 0 ≡ codes "00000000  add r0, r1, r2, lsl #3"
unfolding line_of digits hex_word
shifted = refl

unshifted : line_of (Alu (record { op = Sub; s = true; d = 0; n = 13; x = Reg 2 Lsl 0 })) 0 ≡ codes "00000000  subs r0, sp, r2"
unfolding line_of digits hex_word
unshifted = refl

with_carry : line_of (Alu (record { op = Adc; s = false; d = 0; n = 1; x = Reg 2 Rrx 0 })) 0 ≡ codes "00000000  adc r0, r1, r2, rrx"
unfolding line_of digits hex_word
with_carry = refl

compared : line_of (Test (record { op = Cmp; n = 1; x = Reg 2 Asr 32 })) 0 ≡ codes "00000000  cmp r1, r2, asr #32"
unfolding line_of digits hex_word
compared = refl

literal : line_of (Literal (record { t = 0; up = true; imm = 4 })) 2 ≡ codes "00000002  ldr r0, 0x00000008"
unfolding line_of digits hex_word
literal = refl

-- the address plus 4 passes the last address
wrapped : line_of (Adr (record { d = 14; up = false; imm = 8 })) 0xFFFFFFFE ≡ codes "fffffffe  adr lr, 0xfffffff8"
unfolding line_of digits hex_word
wrapped = refl

back : line_of (Branch (record { cond = Eq; offset = negsuc 5 })) 6 ≡ codes "00000006  beq 0x00000004"
unfolding line_of digits hex_word
back = refl

always : line_of (Branch (record { cond = Al; offset = negsuc 5 })) 0 ≡ codes "00000000  b 0xfffffffe"
unfolding line_of digits hex_word
always = refl

on_zero : line_of (ZeroBranch (record { nonzero = true; n = 7; offset = pos 126 })) 0xFFFFFFFE ≡ codes "fffffffe  cbnz r7, 0x00000080"
unfolding line_of digits hex_word
on_zero = refl

extended : line_of (Unary (record { op = Sxth; d = 0; m = 1; turn = 8 })) 0 ≡ codes "00000000  sxth r0, r1, ror #8"
unfolding line_of digits hex_word
extended = refl

counted : line_of (Unary (record { op = Clz; d = 0; m = 1; turn = 0 })) 0 ≡ codes "00000000  clz r0, r1"
unfolding line_of digits hex_word
counted = refl

cleared : line_of (Field (record { op = Bfc; d = 0; n = None; lsb = 3; width = 4 })) 0 ≡ codes "00000000  bfc r0, #3, #4"
unfolding line_of digits hex_word
cleared = refl

taken : line_of (Field (record { op = Ubfx; d = 0; n = Some 11; lsb = 31; width = 1 })) 0 ≡ codes "00000000  ubfx r0, r11, #31, #1"
unfolding line_of digits hex_word
taken = refl

nothing : line_of (Nothing (record { op = Nop; option = 0 })) 0 ≡ codes "00000000  nop"
unfolding line_of digits hex_word
nothing = refl

barrier : line_of (Nothing (record { op = Dmb; option = 15 })) 0 ≡ codes "00000000  dmb #15"
unfolding line_of digits hex_word
barrier = refl
