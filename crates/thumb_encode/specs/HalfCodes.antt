-- A device of proof: the numbers of 16 bits that may stand for an instruction. Each instruction has at most one but
-- ADDS and SUBS of a constant, which have two where the constant is below 8 and both registers are one.
-- What does not fit its field is cut: whether a number does stand for the instruction is for the table to say.
use Rattle.std.specs.Prelude.{ℕ, ℤ, pos, negsuc, ◌+◌, ◌-◌, ◌*◌, ◌/◌, ◌%◌, ◌^◌, ◌==◌, ◌&&◌, nat_lt, Bool, true, false, Option, Some, None, if◌then◌else◌}
use Rattle.mark_word.specs.declared.numbers.Shift.{Shift}
use Rattle.mark_word.specs.declared.numbers.Shift.TheVariants.{Lsl, Lsr, Asr, Ror, Rrx}
use Rattle.thumb_instr.specs.declared.operations.AluOp.{AluOp}
use Rattle.thumb_instr.specs.declared.operations.AluOp.TheVariants.{And, Bic, Orr, Orn, Eor, Add, Adc, Sbc, Sub, Rsb}
use Rattle.thumb_instr.specs.declared.operations.MoveOp.{MoveOp}
use Rattle.thumb_instr.specs.declared.operations.MoveOp.TheVariants.{Mov, Mvn}
use Rattle.thumb_instr.specs.declared.operations.TestOp.{TestOp}
use Rattle.thumb_instr.specs.declared.operations.TestOp.TheVariants.{Tst, Teq, Cmn, Cmp}
use Rattle.thumb_instr.specs.declared.operations.UnaryOp.{UnaryOp}
use Rattle.thumb_instr.specs.declared.operations.UnaryOp.TheVariants.{Sxth, Sxtb, Uxth, Uxtb, Rev, Rev16, Revsh, Rbit, Clz}
use Rattle.thumb_instr.specs.declared.operations.AccessOp.{AccessOp}
use Rattle.thumb_instr.specs.declared.operations.AccessOp.TheVariants.{Ldr, Ldrb, Ldrh, Ldrsb, Ldrsh, Str, Strb, Strh}
use Rattle.thumb_instr.specs.declared.operations.NothingOp.{NothingOp}
use Rattle.thumb_instr.specs.declared.operations.NothingOp.TheVariants.{Nop, Dmb, Dsb, Isb}
use Rattle.thumb_instr.specs.declared.operands.Operand.{Operand}
use Rattle.thumb_instr.specs.declared.operands.Operand.TheVariants.{Imm, Reg}
use Rattle.thumb_instr.specs.declared.places.Place.{Place}
use Rattle.thumb_instr.specs.declared.places.Place.TheVariants.{Offset, Pre, Post, Index}
use Rattle.thumb_instr.specs.declared.instructions.Instr.{Instr}
use Rattle.thumb_instr.specs.declared.instructions.Instr.TheVariants as instr
use Rattle.thumb_instr.specs.Blocks.{condition_number}
use Rattle.thumb_instr.specs.Fields.{AluFields, MoveFields, TestFields}

-- oooooooooo mmm ddd
unfoldable pub two_registers : ℕ → ℕ → ℕ → ℕ
two_registers o m d = 64 * o + 8 * (m % 8) + d % 8

-- ooooooo mmm nnn ddd
unfoldable pub three_registers : ℕ → ℕ → ℕ → ℕ → ℕ
three_registers o m n d = 512 * o + 64 * (m % 8) + 8 * (n % 8) + d % 8

-- ooooo iiiii mmm ddd
unfoldable pub five_bits : ℕ → ℕ → ℕ → ℕ → ℕ
five_bits o i m d = 2048 * o + 64 * (i % 32) + 8 * (m % 8) + d % 8

-- ooooo ddd iiiiiiii
unfoldable pub eight_bits : ℕ → ℕ → ℕ → ℕ
eight_bits o d i = 2048 * o + 256 * (d % 8) + i % 256

-- oooooooo d mmmm ddd
unfoldable pub high_registers : ℕ → ℕ → ℕ → ℕ
high_registers o m d = 256 * o + 128 * (d / 8 % 2) + 8 * (m % 16) + d % 8

-- the quarter of the value of a constant that is a multiple of 4 up to 1,020
unfoldable pub quarter_of : ℕ → ℕ
quarter_of imm12 = if nat_lt imm12 256 then imm12 / 4 else if nat_lt imm12 3968 then (imm12 + 128) % 256 else (imm12 - 3840) / 2

-- a signed number in two's complement of 32 bits
unfoldable pub word_of : ℤ → ℕ
word_of (pos n) = n
word_of (negsuc n) = 2 ^ 32 - 1 - n

-- ADD and SUB of a constant, which change sp or are made of it where they set no flags
abbrev pub add_constant : Bool → ℕ → ℕ → ℕ → ℕ
add_constant true d n imm = three_registers 14 imm n d
add_constant false d n imm = if d == 13 then 128 * 352 + quarter_of imm % 128 else eight_bits 21 d (quarter_of imm)

abbrev pub subtract_constant : Bool → ℕ → ℕ → ℕ → ℕ
subtract_constant true d n imm = three_registers 15 imm n d
subtract_constant false d n imm = 128 * 353 + quarter_of imm % 128

abbrev pub add_register : Bool → ℕ → ℕ → ℕ → ℕ
add_register true d n m = three_registers 12 m n d
add_register false d n m = high_registers 68 m d

-- by the operation's four bits: 010000 oooo mmm ddd
abbrev pub by_code : ℕ → AluFields → Operand → Option ℕ
by_code o a (Imm imm) = None
by_code o a (Reg m kind amount) = Some (two_registers (256 + o) m a.d)

abbrev pub sum_code : AluFields → Operand → Option ℕ
sum_code a (Imm imm) = Some (add_constant a.s a.d a.n imm)
sum_code a (Reg m kind amount) = Some (add_register a.s a.d a.n m)

abbrev pub difference_code : AluFields → Operand → Option ℕ
difference_code a (Imm imm) = Some (subtract_constant a.s a.d a.n imm)
difference_code a (Reg m kind amount) = Some (three_registers 13 m a.n a.d)

abbrev pub alu_code : AluOp → AluFields → Option ℕ
alu_code And a = by_code 0 a a.x
alu_code Bic a = by_code 14 a a.x
alu_code Orr a = by_code 12 a a.x
alu_code Orn a = None
alu_code Eor a = by_code 1 a a.x
alu_code Add a = sum_code a a.x
alu_code Adc a = by_code 5 a a.x
alu_code Sbc a = by_code 6 a a.x
alu_code Sub a = difference_code a a.x
alu_code Rsb a = Some (two_registers (256 + 9) a.n a.d)

-- by the kind of a shift; without one and without flags for all registers
abbrev pub shift_number : Shift → ℕ
shift_number Lsl = 0
shift_number Lsr = 1
shift_number Asr = 2
shift_number Ror = 3
shift_number Rrx = 3

abbrev pub move_register : Bool → ℕ → ℕ → Shift → ℕ → ℕ
move_register true d m kind amount = five_bits (shift_number kind) amount m d
move_register false d m kind amount = high_registers 70 m d

abbrev pub mov_code : MoveFields → Operand → Option ℕ
mov_code a (Imm imm) = Some (eight_bits 4 a.d imm)
mov_code a (Reg m kind amount) = Some (move_register a.s a.d m kind amount)

abbrev pub mvn_code : MoveFields → Operand → Option ℕ
mvn_code a (Imm imm) = None
mvn_code a (Reg m kind amount) = Some (two_registers (256 + 15) m a.d)

abbrev pub move_code : MoveOp → MoveFields → Option ℕ
move_code Mov a = mov_code a a.x
move_code Mvn a = mvn_code a a.x

-- CMP of registers, one of which may be high
abbrev pub compare_registers : ℕ → ℕ → ℕ
compare_registers n m = if nat_lt n 8 && nat_lt m 8 then two_registers (256 + 10) m n else high_registers 69 m n

abbrev pub compare_code : ℕ → Operand → Option ℕ
compare_code n (Imm imm) = Some (eight_bits 5 n imm)
compare_code n (Reg m kind amount) = Some (compare_registers n m)

abbrev pub test_by_code : ℕ → ℕ → Operand → Option ℕ
test_by_code o n (Imm imm) = None
test_by_code o n (Reg m kind amount) = Some (two_registers (256 + o) m n)

abbrev pub test_code : TestOp → TestFields → Option ℕ
test_code Tst a = test_by_code 8 a.n a.x
test_code Teq a = None
test_code Cmn a = test_by_code 11 a.n a.x
test_code Cmp a = compare_code a.n a.x

abbrev pub shift_code : Shift → ℕ → ℕ → Option ℕ
shift_code Lsl d m = Some (two_registers (256 + 2) m d)
shift_code Lsr d m = Some (two_registers (256 + 3) m d)
shift_code Asr d m = Some (two_registers (256 + 4) m d)
shift_code Ror d m = Some (two_registers (256 + 7) m d)
shift_code Rrx d m = None

abbrev pub unary_code : UnaryOp → ℕ → ℕ → Option ℕ
unary_code Sxth d m = Some (two_registers 712 m d)
unary_code Sxtb d m = Some (two_registers 713 m d)
unary_code Uxth d m = Some (two_registers 714 m d)
unary_code Uxtb d m = Some (two_registers 715 m d)
unary_code Rev d m = Some (two_registers 744 m d)
unary_code Rev16 d m = Some (two_registers 745 m d)
unary_code Revsh d m = Some (two_registers 747 m d)
unary_code Rbit d m = None
unary_code Clz d m = None

-- loads and stores with a register, by the operation's three bits: 0101 ooo mmm nnn ttt
abbrev pub index_number : AccessOp → ℕ
index_number Str = 0
index_number Strh = 1
index_number Strb = 2
index_number Ldrsb = 3
index_number Ldr = 4
index_number Ldrh = 5
index_number Ldrb = 6
index_number Ldrsh = 7

-- a word's number has eight bits where the base is sp
abbrev pub word_offset : ℕ → ℕ → ℕ → ℕ → ℕ → ℕ
word_offset low_row sp_row t n imm = if n == 13 then eight_bits sp_row t (imm / 4) else five_bits low_row (imm / 4) n t

abbrev pub offset_code : AccessOp → ℕ → ℕ → ℕ → Option ℕ
offset_code Str t n imm = Some (word_offset 12 18 t n imm)
offset_code Ldr t n imm = Some (word_offset 13 19 t n imm)
offset_code Strb t n imm = Some (five_bits 14 imm n t)
offset_code Ldrb t n imm = Some (five_bits 15 imm n t)
offset_code Strh t n imm = Some (five_bits 16 (imm / 2) n t)
offset_code Ldrh t n imm = Some (five_bits 17 (imm / 2) n t)
offset_code Ldrsb t n imm = None
offset_code Ldrsh t n imm = None

abbrev pub place_code : AccessOp → ℕ → ℕ → Place → Option ℕ
place_code op t n (Offset up imm) = offset_code op t n imm
place_code op t n (Pre up imm) = None
place_code op t n (Post up imm) = None
place_code op t n (Index m shift) = Some (three_registers (40 + index_number op) m n t)

-- PUSH and STM; POP and LDM
abbrev pub many_code : Bool → ℕ → ℕ → Bool → ℕ
many_code false n list pc = if n == 13 then 512 * 90 + 256 * (list / 2 ^ 14 % 2) + list % 256 else eight_bits 24 n (list % 256)
many_code true n list pc = if n == 13 then 512 * 94 + 256 * (if pc then 1 else 0) + list % 256 else eight_bits 25 n (list % 256)

-- B with a condition has eight bits, without one eleven
abbrev pub branch_code : ℕ → ℤ → ℕ
branch_code condition offset =
    if condition == 14 then 2048 * 28 + word_of offset / 2 % 2048
    else 256 * 208 + 256 * condition + word_of offset / 2 % 256

abbrev pub zero_branch_code : Bool → ℕ → ℤ → ℕ
zero_branch_code nonzero n offset =
    4096 * 11 + 2048 * (if nonzero then 1 else 0) + 512 * (word_of offset / 64 % 2) + 256 + 8 * (word_of offset / 2 % 32) + n % 8

abbrev pub nothing_code : NothingOp → Option ℕ
nothing_code Nop = Some 0xBF00
nothing_code Dmb = None
nothing_code Dsb = None
nothing_code Isb = None

unfoldable pub half_code : Instr → Option ℕ
half_code (instr.Alu a) = alu_code a.op a
half_code (instr.Move a) = move_code a.op a
half_code (instr.Test a) = test_code a.op a
half_code (instr.ShiftBy a) = shift_code a.kind a.d a.m
half_code (instr.Wide a) = None
half_code (instr.Half a) = None
half_code (instr.Field a) = None
half_code (instr.Unary a) = unary_code a.op a.d a.m
half_code (instr.Mul a) = Some (two_registers (256 + 13) a.n a.d)
half_code (instr.MulAcc a) = None
half_code (instr.LongMul a) = None
half_code (instr.Div a) = None
half_code (instr.Access a) = place_code a.op a.t a.n a.place
half_code (instr.Pair a) = None
half_code (instr.Multi a) = Some (many_code a.load a.n a.list.0 a.pc)
half_code (instr.Literal a) = Some (eight_bits 9 a.t (a.imm / 4))
half_code (instr.Adr a) = None
half_code (instr.Branch a) = Some (branch_code (condition_number a.cond) a.offset)
half_code (instr.ZeroBranch a) = Some (zero_branch_code a.nonzero a.n a.offset)
half_code (instr.Call a) = None
half_code (instr.Jump a) = Some (128 * 142 + 8 * (a.m % 16))
half_code (instr.CallReg a) = Some (128 * 143 + 8 * (a.m % 16))
half_code (instr.It a) = Some (0xBF00 + 16 * condition_number a.first + a.mask % 16)
half_code (instr.Nothing a) = nothing_code a.op
half_code (instr.Trap a) = Some (0xDE00 + a.imm % 256)

-- ADDS and SUBS on one register, with a constant of eight bits: the later of their rows
abbrev pub constant_code : ℕ → Bool → ℕ → Operand → Option ℕ
constant_code o true d (Imm imm) = Some (eight_bits o d imm)
constant_code o true d (Reg m kind amount) = None
constant_code o false d x = None

abbrev pub later_alu_code : AluOp → AluFields → Option ℕ
later_alu_code And a = None
later_alu_code Bic a = None
later_alu_code Orr a = None
later_alu_code Orn a = None
later_alu_code Eor a = None
later_alu_code Add a = constant_code 6 a.s a.d a.x
later_alu_code Adc a = None
later_alu_code Sbc a = None
later_alu_code Sub a = constant_code 7 a.s a.d a.x
later_alu_code Rsb a = None

unfoldable pub later_code : Instr → Option ℕ
later_code (instr.Alu a) = later_alu_code a.op a
later_code (instr.Move a) = None
later_code (instr.Test a) = None
later_code (instr.ShiftBy a) = None
later_code (instr.Wide a) = None
later_code (instr.Half a) = None
later_code (instr.Field a) = None
later_code (instr.Unary a) = None
later_code (instr.Mul a) = None
later_code (instr.MulAcc a) = None
later_code (instr.LongMul a) = None
later_code (instr.Div a) = None
later_code (instr.Access a) = None
later_code (instr.Pair a) = None
later_code (instr.Multi a) = None
later_code (instr.Literal a) = None
later_code (instr.Adr a) = None
later_code (instr.Branch a) = None
later_code (instr.ZeroBranch a) = None
later_code (instr.Call a) = None
later_code (instr.Jump a) = None
later_code (instr.CallReg a) = None
later_code (instr.It a) = None
later_code (instr.Nothing a) = None
later_code (instr.Trap a) = None
