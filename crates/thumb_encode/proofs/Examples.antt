-- Worked codes: adds r0, r0, #1 by two rows, movs r0, #5, and nop of two halfwords; and which have two halfwords.
use Rattle.std.specs.Prelude.{◌≡◌, true, false, pos}
use Rattle.std.proofs.Common.{refl, arith}
use Rattle.thumb_instr.specs.declared.operations.AluOp.TheVariants.{Add}
use Rattle.thumb_instr.specs.declared.operations.MoveOp.TheVariants.{Mov}
use Rattle.thumb_instr.specs.declared.operations.NothingOp.TheVariants.{Nop}
use Rattle.thumb_instr.specs.declared.operands.Operand.TheVariants.{Imm, Reg}
use Rattle.mark_word.specs.declared.numbers.Shift.TheVariants.{Lsl}
use Rattle.thumb_instr.specs.declared.conditions.Cond.TheVariants.{Eq}
use Rattle.thumb_instr.specs.Operands.{has}
use Rattle.thumb_instr.specs.DataRows.{names, is_rrx, is_copy, has_odd_sp}
use Rattle.thumb_encode.specs.HasFull.{has_full}
use Rattle.thumb_instr.specs.declared.instructions.Instr.{Instr}
use Rattle.thumb_instr.specs.declared.instructions.Instr.TheVariants as instr
use Rattle.thumb_instr.specs.HalfRows.{half_rows}
use Rattle.thumb_instr.specs.FullRows.{full_rows}
use Rattle.thumb_encode.specs.declared.codes.Width.TheVariants as width
use Rattle.thumb_encode.specs.declared.codes.Code.TheVariants as code
use Rattle.thumb_encode.specs.Encoding.{row_of, row_number, StandsFor, IsCodeOf}

one_more : Instr
one_more = instr.Alu (record { op = Add; s = true; d = 0; n = 0; x = Imm 1 })

three_bits : IsCodeOf one_more width.Half (code.Half 0x1C40)
unfolding one_more half_rows
three_bits = (refl, (omega arith, refl, refl))

eight_bits : IsCodeOf one_more width.Half (code.Half 0x3001)
unfolding one_more half_rows
eight_bits = (refl, (omega arith, refl, refl))

three_bits_row : row_number (code.Half 0x1C40) ≡ 5
unfolding row_of half_rows
three_bits_row = refl

eight_bits_row : row_number (code.Half 0x3001) ≡ 9
unfolding row_of half_rows
eight_bits_row = refl

moved : StandsFor (code.Half 0x2005) (instr.Move (record { op = Mov; s = true; d = 0; x = Imm 5 }))
unfolding half_rows
moved = (omega arith, refl, refl)

nop : IsCodeOf (instr.Nothing (record { op = Nop; option = 0 })) width.Full (code.Full 0xF3AF 0x8000)
unfolding full_rows
nop = (refl, (omega arith, omega arith, refl, refl))

nop_row : row_number (code.Full 0xF3AF 0x8000) ≡ 14
unfolding row_of full_rows
nop_row = refl

adds_has_full : has_full one_more ≡ true
unfolding one_more has_full has_odd_sp names is_rrx
adds_has_full = refl

-- mov sp, sp
sp_to_itself : has_full (instr.Move (record { op = Mov; s = false; d = 13; x = Reg 13 Lsl 0 })) ≡ false
unfolding has_full is_copy names is_rrx
sp_to_itself = refl

-- pop {pc}, and pop {lr}, which is one of two registers at least
pops_pc : has_full (instr.Multi (record { load = true; down = false; back = true; n = 13; list = record { 0 = 0 }; pc = true })) ≡ true
unfolding has_full
pops_pc = refl

pops_lr : has_full (instr.Multi (record { load = true; down = false; back = true; n = 13; list = record { 0 = 0x4000 }; pc = false })) ≡ false
unfolding has_full has
pops_lr = refl

-- beq 1 MiB ahead
beq_far : has_full (instr.Branch (record { cond = Eq; offset = pos 0x100000 })) ≡ false
unfolding has_full
beq_far = refl
