-- What some pairs of halfwords stand for.
use Rattle.std.proofs.Common.{◌≡◌, true, false, Some, None, Ok, Err, refl, negsuc, pos}
use Rattle.mark_word.specs.declared.numbers.Shift.TheVariants.{Lsl}
use Rattle.thumb_instr.specs.declared.operations.AluOp.TheVariants as alu_op
use Rattle.thumb_instr.specs.declared.operations.MoveOp.TheVariants.{Mov}
use Rattle.thumb_instr.specs.declared.operations.LongMulOp.TheVariants.{Umlal}
use Rattle.thumb_instr.specs.declared.operations.FieldOp.TheVariants.{Bfi}
use Rattle.thumb_instr.specs.declared.operations.AccessOp.TheVariants.{Ldr}
use Rattle.thumb_instr.specs.declared.operations.NothingOp.TheVariants.{Dsb}
use Rattle.thumb_instr.specs.declared.operands.Operand.TheVariants.{Imm, Reg}
use Rattle.thumb_instr.specs.declared.places.Place.TheVariants.{Offset}
use Rattle.thumb_instr.specs.declared.conditions.Cond.TheVariants.{Ne}
use Rattle.thumb_instr.specs.declared.instructions.Instr.TheVariants as instr
use Rattle.thumb_instr.specs.declared.refusals.BadInstr.TheVariants.{Unknown, Unpredictable, TableBranch, ReadsAndSetsFlags}
use Rattle.thumb_instr.specs.declared.refusals.ItPlace.TheVariants.{Outside, Inside, Last}
use Rattle.thumb_instr.specs.Operands.{has}
use Rattle.thumb_instr.specs.DataRows.{names, is_rrx, moves_sp, has_odd_sp, alu_row, is_copy, move_row, or_move, or_test, data_processing, shifted}
use Rattle.thumb_instr.specs.FullRows.{many, exclusive, dual, insert, on_condition_branch, access_row, product, full_rows}
use Rattle.thumb_instr.specs.Rows.{decode_given}

-- ldr.w r0, a word of the code
load_literal : decode_given Outside 0xF8DF (Some 0x07FC) ≡ Ok (instr.Literal (record { t = 0; up = true; imm = 2044 }))
unfolding full_rows
load_literal = refl

-- movw r3, #0
movw : decode_given Outside 0xF240 (Some 0x0300) ≡ Ok (instr.Half (record { top = false; d = 3; imm = 0 }))
unfolding full_rows
movw = refl

-- movt r3, #0
movt : decode_given Outside 0xF2C0 (Some 0x0300) ≡ Ok (instr.Half (record { top = true; d = 3; imm = 0 }))
unfolding full_rows
movt = refl

-- mul r12, r1, r0
multiply : decode_given Outside 0xFB01 (Some 0xFC00) ≡ Ok (instr.Mul (record { s = false; d = 12; n = 1; m = 0 }))
unfolding full_rows product
multiply = refl

-- movs.w r0, r12
move_flags : decode_given Outside 0xEA5F (Some 0x000C) ≡ Ok (instr.Move (record { op = Mov; s = true; d = 0; x = Reg 12 Lsl 0 }))
unfolding full_rows data_processing shifted or_move move_row is_copy names is_rrx
move_flags = refl

-- sub.w r12, sp, #8
below_sp : decode_given Outside 0xF1AD (Some 0x0C08) ≡ Ok (instr.Alu (record { op = alu_op.Sub; s = false; d = 12; n = 13; x = Imm 8 }))
unfolding full_rows data_processing or_test alu_row has_odd_sp moves_sp names is_rrx
below_sp = refl

-- stm.w sp, {r4, lr}
store_many : decode_given Outside 0xE88D (Some 0x4010) ≡ Ok (instr.Multi (record { load = false; down = false; back = false; n = 13; list = record { 0 = 0x4010 }; pc = false }))
unfolding full_rows many has
store_many = refl

-- ldr.w lr, [sp]
load_lr : decode_given Outside 0xF8DD (Some 0xE000) ≡ Ok (instr.Access (record { op = Ldr; t = 14; n = 13; place = Offset true 0 }))
unfolding full_rows access_row
load_lr = refl

-- pop.w {pc}, last in an IT block or in one
pop_pc : decode_given Last 0xF85D (Some 0xFB04) ≡ Ok (instr.Multi (record { load = true; down = false; back = true; n = 13; list = record { 0 = 0 }; pc = true }))
unfolding full_rows has
pop_pc = refl

pop_pc_inside : decode_given Inside 0xF85D (Some 0xFB04) ≡ Err Unpredictable
unfolding full_rows
pop_pc_inside = refl

-- bl, to itself
call_itself : decode_given Outside 0xF7FF (Some 0xFFFE) ≡ Ok (instr.Call (record { offset = negsuc 3 }))
unfolding full_rows
call_itself = refl

-- bne.w
branch_on : decode_given Outside 0xF040 (Some 0x8006) ≡ Ok (instr.Branch (record { cond = Ne; offset = pos 12 }))
unfolding full_rows on_condition_branch
branch_on = refl

-- umlal r0, r1, r2, r3
long_sum : decode_given Outside 0xFBE2 (Some 0x0103) ≡ Ok (instr.LongMul (record { op = Umlal; lo = 0; hi = 1; n = 2; m = 3 }))
unfolding full_rows
long_sum = refl

-- bfi r0, r1, #4, #8
insert_field : decode_given Outside 0xF361 (Some 0x100B) ≡ Ok (instr.Field (record { op = Bfi; d = 0; n = Some 1; lsb = 4; width = 8 }))
unfolding full_rows insert
insert_field = refl

-- tbb [pc, r0]
by_table : decode_given Outside 0xE8DF (Some 0xF000) ≡ Err TableBranch
unfolding full_rows dual exclusive
by_table = refl

-- dsb sy
barrier : decode_given Outside 0xF3BF (Some 0x8F4F) ≡ Ok (instr.Nothing (record { op = Dsb; option = 15 }))
unfolding full_rows
barrier = refl

-- adcs.w r0, r0, r1
add_carry : decode_given Inside 0xEB50 (Some 0x0001) ≡ Err ReadsAndSetsFlags
unfolding full_rows data_processing shifted alu_row has_odd_sp names is_rrx
add_carry = refl

-- the first alone
alone : decode_given Outside 0xF7FF None ≡ Err Unknown
alone = refl
