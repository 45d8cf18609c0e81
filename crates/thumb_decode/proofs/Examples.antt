-- What some halfwords stand for.
use Rattle.std.proofs.Common.{◌≡◌, true, false, None, Ok, Err, refl, negsuc}
use Rattle.mark_word.specs.declared.numbers.Shift.TheVariants.{Lsl}
use Rattle.thumb_instr.specs.declared.operations.AluOp.TheVariants as alu_op
use Rattle.thumb_instr.specs.declared.operations.MoveOp.TheVariants.{Mov}
use Rattle.thumb_instr.specs.declared.operands.Operand.TheVariants.{Imm, Reg}
use Rattle.thumb_instr.specs.declared.conditions.Cond.TheVariants.{Eq, Ne}
use Rattle.thumb_instr.specs.declared.instructions.Instr.TheVariants.{Alu, Move, Mul, Multi, Branch, Jump, It}
use Rattle.thumb_instr.specs.declared.refusals.BadInstr.TheVariants.{SupervisorCall, Unpredictable, ReadsAndSetsFlags}
use Rattle.thumb_instr.specs.declared.refusals.ItPlace.TheVariants.{Outside, Inside, Last}
use Rattle.thumb_instr.specs.Operands.{has}
use Rattle.thumb_instr.specs.HalfRows.{half_rows}
use Rattle.thumb_instr.specs.Rows.{decode_given}

-- movs r0, #5
five : decode_given Outside 0x2005 None ≡ Ok (Move (record { op = Mov; s = true; d = 0; x = Imm 5 }))
unfolding half_rows
five = refl

-- bx lr
back : decode_given Last 0x4770 None ≡ Ok (Jump (record { m = 14 }))
unfolding half_rows
back = refl

-- it eq
if_equal : decode_given Outside 0xBF08 None ≡ Ok (It (record { first = Eq; mask = 8 }))
unfolding half_rows
if_equal = refl

-- moveq r0, #1
one : decode_given Last 0x2001 None ≡ Ok (Move (record { op = Mov; s = false; d = 0; x = Imm 1 }))
unfolding half_rows
one = refl

-- push {r4, lr}
push : decode_given Outside 0xB510 None ≡ Ok (Multi (record { load = false; down = true; back = true; n = 13; list = record { 0 = 0x4010 }; pc = false }))
unfolding half_rows has
push = refl

-- pop {r4, pc}
pop : decode_given Outside 0xBD10 None ≡ Ok (Multi (record { load = true; down = false; back = true; n = 13; list = record { 0 = 0x10 }; pc = true }))
unfolding half_rows has
pop = refl

-- adds r0, #1
add_one : decode_given Outside 0x3001 None ≡ Ok (Alu (record { op = alu_op.Add; s = true; d = 0; n = 0; x = Imm 1 }))
unfolding half_rows
add_one = refl

-- muls r0, r1, r0
product : decode_given Outside 0x4348 None ≡ Ok (Mul (record { s = true; d = 0; n = 1; m = 0 }))
unfolding half_rows
product = refl

-- add sp, sp
add_sp : decode_given Outside 0x44ED None ≡ Err Unpredictable
unfolding half_rows
add_sp = refl

-- svc 0
supervisor : decode_given Outside 0xDF00 None ≡ Err SupervisorCall
unfolding half_rows
supervisor = refl

-- adcs r0, r1
add_carry : decode_given Outside 0x4148 None ≡ Err ReadsAndSetsFlags
unfolding half_rows
add_carry = refl

-- mov r0, r12
copy : decode_given Inside 0x4660 None ≡ Ok (Move (record { op = Mov; s = false; d = 0; x = Reg 12 Lsl 0 }))
unfolding half_rows
copy = refl

-- bne, to the instruction before
loop : decode_given Outside 0xD1FD None ≡ Ok (Branch (record { cond = Ne; offset = negsuc 5 }))
unfolding half_rows
loop = refl
