-- A device of proof: the number of 32 bits that alone may stand for an instruction; its upper half is the first halfword.
-- What does not fit its field is cut: whether the number does stand for the instruction is for the table to say.
use Rattle.std.specs.Prelude.{ℕ, ℤ, ◌+◌, ◌-◌, ◌*◌, ◌/◌, ◌%◌, ◌^◌, ◌==◌, Bool, true, false, Option, Some, None, if◌then◌else◌}
use Rattle.mark_word.specs.Formulas.{one_if}
use Rattle.thumb_instr.specs.declared.operations.AluOp.{AluOp}
use Rattle.thumb_instr.specs.declared.operations.AluOp.TheVariants.{And, Bic, Orr, Orn, Eor, Add, Adc, Sbc, Sub, Rsb}
use Rattle.thumb_instr.specs.declared.operations.MoveOp.{MoveOp}
use Rattle.thumb_instr.specs.declared.operations.MoveOp.TheVariants.{Mov, Mvn}
use Rattle.thumb_instr.specs.declared.operations.TestOp.{TestOp}
use Rattle.thumb_instr.specs.declared.operations.TestOp.TheVariants.{Tst, Teq, Cmn, Cmp}
use Rattle.thumb_instr.specs.declared.operations.WideOp.{WideOp}
use Rattle.thumb_instr.specs.declared.operations.WideOp.TheVariants as wide
use Rattle.thumb_instr.specs.declared.operations.FieldOp.{FieldOp}
use Rattle.thumb_instr.specs.declared.operations.FieldOp.TheVariants.{Sbfx, Ubfx, Bfi, Bfc}
use Rattle.thumb_instr.specs.declared.operations.UnaryOp.{UnaryOp}
use Rattle.thumb_instr.specs.declared.operations.UnaryOp.TheVariants.{Sxth, Sxtb, Uxth, Uxtb, Rev, Rev16, Revsh, Rbit, Clz}
use Rattle.thumb_instr.specs.declared.operations.LongMulOp.{LongMulOp}
use Rattle.thumb_instr.specs.declared.operations.LongMulOp.TheVariants.{Smull, Umull, Smlal, Umlal}
use Rattle.thumb_instr.specs.declared.operations.AccessOp.{AccessOp}
use Rattle.thumb_instr.specs.declared.operations.AccessOp.TheVariants.{Ldr, Ldrb, Ldrh, Ldrsb, Ldrsh, Str, Strb, Strh}
use Rattle.thumb_instr.specs.declared.operations.NothingOp.{NothingOp}
use Rattle.thumb_instr.specs.declared.operations.NothingOp.TheVariants.{Nop, Dmb, Dsb, Isb}
use Rattle.thumb_instr.specs.declared.operands.Operand.{Operand}
use Rattle.thumb_instr.specs.declared.operands.Operand.TheVariants.{Imm, Reg}
use Rattle.thumb_instr.specs.declared.places.Place.{Place}
use Rattle.thumb_instr.specs.declared.places.Place.TheVariants.{Offset, Pre, Post, Index}
use Rattle.thumb_instr.specs.declared.places.PairIndex.{PairIndex}
use Rattle.thumb_instr.specs.declared.places.PairIndex.TheVariants as index
use Rattle.thumb_instr.specs.declared.instructions.Instr.{Instr}
use Rattle.thumb_instr.specs.declared.instructions.Instr.TheVariants as instr
use Rattle.thumb_instr.specs.Fields.{FieldFields, UnaryFields, PairFields, MultiFields}
use Rattle.thumb_instr.specs.Blocks.{condition_number}
use Rattle.thumb_encode.specs.HalfCodes.{shift_number, word_of}

-- oooooooooooo nnnn, aaaa dddd llllllll
unfoldable pub full_number : ℕ → ℕ → ℕ → ℕ → ℕ → ℕ
full_number o n a d low = 2 ^ 20 * o + 2 ^ 16 * n + 2 ^ 12 * a + 2 ^ 8 * d + low

-- a number of 12 bits in three parts: 11110 i oooooo nnnn, 0 iii dddd iiiiiiii
unfoldable pub split_number : ℕ → ℕ → ℕ → ℕ → ℕ
split_number o n d imm = full_number (2 ^ 7 * 30 + 2 ^ 6 * (imm / 2 ^ 11 % 2) + o) n (imm / 2 ^ 8 % 8) d (imm % 2 ^ 8)

-- a number of five bits in two parts
unfoldable pub shifted_number : ℕ → ℕ → ℕ → ℕ → ℕ → ℕ
shifted_number o n d five low = full_number o n (five / 4 % 8) d (2 ^ 6 * (five % 4) + low)

-- data processing, by the operation's four bits
abbrev pub data_code : ℕ → Bool → ℕ → ℕ → Operand → ℕ
data_code o s n d (Imm imm) = split_number (2 * o + one_if s) n d imm
data_code o s n d (Reg m kind amount) = shifted_number (2 ^ 5 * 117 + 2 * o + one_if s) n d amount (2 ^ 4 * shift_number kind + m)

abbrev pub alu_number : AluOp → ℕ
alu_number And = 0
alu_number Bic = 1
alu_number Orr = 2
alu_number Orn = 3
alu_number Eor = 4
alu_number Add = 8
alu_number Adc = 10
alu_number Sbc = 11
alu_number Sub = 13
alu_number Rsb = 14

abbrev pub move_number : MoveOp → ℕ
move_number Mov = 2
move_number Mvn = 3

abbrev pub test_number : TestOp → ℕ
test_number Tst = 0
test_number Teq = 4
test_number Cmn = 8
test_number Cmp = 13

abbrev pub wide_number : WideOp → ℕ
wide_number wide.Add = 32
wide_number wide.Sub = 42

abbrev pub adr_number : Bool → ℕ
adr_number true = 32
adr_number false = 42

abbrev pub half_number : Bool → ℕ
half_number false = 36
half_number true = 44

-- the source, or pc for none
abbrev pub source_number : Option ℕ → ℕ
source_number None = 15
source_number (Some n) = n

abbrev pub field_code : FieldOp → FieldFields → ℕ
field_code Sbfx a = shifted_number 0xF34 (source_number a.n) a.d a.lsb (a.width - 1)
field_code Ubfx a = shifted_number 0xF3C (source_number a.n) a.d a.lsb (a.width - 1)
field_code Bfi a = shifted_number 0xF36 (source_number a.n) a.d a.lsb (a.lsb + a.width - 1)
field_code Bfc a = shifted_number 0xF36 (source_number a.n) a.d a.lsb (a.lsb + a.width - 1)

abbrev pub extension_code : ℕ → UnaryFields → ℕ
extension_code o a = full_number o 15 15 a.d (2 ^ 7 + 2 ^ 4 * (a.turn / 8 % 4) + a.m)

-- the register stands twice
abbrev pub order_code : ℕ → ℕ → UnaryFields → ℕ
order_code o kind a = full_number o a.m 15 a.d (2 ^ 4 * kind + a.m)

abbrev pub unary_code : UnaryOp → UnaryFields → ℕ
unary_code Sxth a = extension_code 0xFA0 a
unary_code Uxth a = extension_code 0xFA1 a
unary_code Sxtb a = extension_code 0xFA4 a
unary_code Uxtb a = extension_code 0xFA5 a
unary_code Rev a = order_code 0xFA9 8 a
unary_code Rev16 a = order_code 0xFA9 9 a
unary_code Rbit a = order_code 0xFA9 10 a
unary_code Revsh a = order_code 0xFA9 11 a
unary_code Clz a = order_code 0xFAB 8 a

abbrev pub long_mul_number : LongMulOp → ℕ
long_mul_number Smull = 0xFB8
long_mul_number Umull = 0xFBA
long_mul_number Smlal = 0xFBC
long_mul_number Umlal = 0xFBE

abbrev pub div_number : Bool → ℕ
div_number true = 0xFB9
div_number false = 0xFBB

-- whether the number is signed, how many bytes there are, and whether they are loaded: g zz l
abbrev pub access_number : AccessOp → ℕ
access_number Strb = 0
access_number Ldrb = 1
access_number Strh = 2
access_number Ldrh = 3
access_number Str = 4
access_number Ldr = 5
access_number Ldrsb = 9
access_number Ldrsh = 11

-- 1111100 g
unfoldable pub access_row_number : ℕ → ℕ
access_row_number k = 2 ^ 5 * 124 + 2 ^ 4 * (k / 8) + k % 8

-- a number of eight bits below the base, or with a change of the base: 1 p u w iiiiiiii
unfoldable pub byte_number : ℕ → ℕ → ℕ → ℕ → Bool → ℕ → ℕ → ℕ
byte_number k n t p up w imm = full_number (access_row_number k) n t (8 + 4 * p + 2 * one_if up + w) (imm % 2 ^ 8)

abbrev pub place_code : ℕ → ℕ → ℕ → Place → ℕ
place_code k n t (Offset true imm) = full_number (access_row_number k + 8) n t (imm / 2 ^ 8 % 16) (imm % 2 ^ 8)
place_code k n t (Offset false imm) = byte_number k n t 1 false 0 imm
place_code k n t (Pre up imm) = byte_number k n t 1 up 1 imm
place_code k n t (Post up imm) = byte_number k n t 0 up 1 imm
place_code k n t (Index m shift) = full_number (access_row_number k) n t 0 (2 ^ 4 * (shift % 4) + m)

-- p and w, by when the base changes
abbrev pub is_before : PairIndex → ℕ
is_before index.Offset = 1
is_before index.Pre = 1
is_before index.Post = 0

abbrev pub is_changed : PairIndex → ℕ
is_changed index.Offset = 0
is_changed index.Pre = 1
is_changed index.Post = 1

-- 1110100 p u 1 w l nnnn, tttt ssss iiiiiiii
abbrev pub pair_code : PairFields → ℕ
pair_code a =
    full_number (2 ^ 5 * 116 + 2 ^ 4 * is_before a.index + 2 ^ 3 * one_if a.up + 2 ^ 2 + 2 * is_changed a.index + one_if a.load) a.n a.t a.u (a.imm / 4 % 2 ^ 8)

-- 1110100 010 or 100 w l nnnn, p m 0 list; of pc alone there is a POP
abbrev pub multi_code : MultiFields → ℕ
multi_code a =
    if a.list.0 == 0 then 0xF85DFB04
    else full_number (2 ^ 2 * (if a.down then 932 else 930) + 2 * one_if a.back + one_if a.load) a.n
    (2 ^ 3 * one_if a.pc + 2 ^ 2 * (a.list.0 / 2 ^ 14 % 2) + a.list.0 / 2 ^ 12 % 2) (a.list.0 / 2 ^ 8 % 16) (a.list.0 % 2 ^ 8)

-- 11110 s cccc iiiiii, 10 j 0 k iiiiiiiiiii
unfoldable pub near_branch : ℕ → ℕ → ℕ
near_branch condition offset =
    2 ^ 27 * 30 + 2 ^ 26 * (offset / 2 ^ 20 % 2) + 2 ^ 22 * condition + 2 ^ 16 * (offset / 2 ^ 12 % 2 ^ 6)
    + 2 ^ 15 + 2 ^ 13 * (offset / 2 ^ 18 % 2) + 2 ^ 11 * (offset / 2 ^ 19 % 2) + offset / 2 % 2 ^ 11

-- 11110 s iiiiiiiiii, 10 or 11 j 1 k iiiiiiiiiii: two bits of the offset are set where they are the sign's
unfoldable pub far_branch : ℕ → ℕ → ℕ
far_branch o offset =
    let s = offset / 2 ^ 24 % 2 in
    2 ^ 27 * 30 + 2 ^ 26 * s + 2 ^ 16 * (offset / 2 ^ 12 % 2 ^ 10) + 2 ^ 14 * o + 2 ^ 12
    + 2 ^ 13 * one_if (offset / 2 ^ 23 % 2 == s) + 2 ^ 11 * one_if (offset / 2 ^ 22 % 2 == s) + offset / 2 % 2 ^ 11

abbrev pub branch_code : ℕ → ℤ → ℕ
branch_code condition offset = if condition == 14 then far_branch 2 (word_of offset) else near_branch condition (word_of offset)

abbrev pub nothing_code : NothingOp → ℕ → ℕ
nothing_code Nop option = 0xF3AF8000
nothing_code Dsb option = 0xF3BF8F40 + option
nothing_code Dmb option = 0xF3BF8F50 + option
nothing_code Isb option = 0xF3BF8F60 + option

unfoldable pub full_code : Instr → Option ℕ
full_code (instr.Alu a) = Some (data_code (alu_number a.op) a.s a.n a.d a.x)
full_code (instr.Move a) = Some (data_code (move_number a.op) a.s 15 a.d a.x)
full_code (instr.Test a) = Some (data_code (test_number a.op) true a.n 15 a.x)
full_code (instr.ShiftBy a) = Some (full_number (2 ^ 3 * 500 + 2 * shift_number a.kind + one_if a.s) a.n 15 a.d a.m)
full_code (instr.Wide a) = Some (split_number (wide_number a.op) a.n a.d a.imm)
full_code (instr.Half a) = Some (split_number (half_number a.top) (a.imm / 2 ^ 12) a.d (a.imm % 2 ^ 12))
full_code (instr.Field a) = Some (field_code a.op a)
full_code (instr.Unary a) = Some (unary_code a.op a)
full_code (instr.Mul a) = Some (full_number 0xFB0 a.n 15 a.d a.m)
full_code (instr.MulAcc a) = Some (full_number 0xFB0 a.n a.a a.d (2 ^ 4 * one_if a.minus + a.m))
full_code (instr.LongMul a) = Some (full_number (long_mul_number a.op) a.n a.lo a.hi a.m)
full_code (instr.Div a) = Some (full_number (div_number a.signed) a.n 15 a.d (2 ^ 4 * 15 + a.m))
full_code (instr.Access a) = Some (place_code (access_number a.op) a.n a.t a.place)
full_code (instr.Pair a) = Some (pair_code a)
full_code (instr.Multi a) = Some (multi_code a)
full_code (instr.Literal a) = Some (full_number (2 ^ 4 * 0xF8 + 2 ^ 3 * one_if a.up + 5) 15 a.t (a.imm / 2 ^ 8) (a.imm % 2 ^ 8))
full_code (instr.Adr a) = Some (split_number (adr_number a.up) 15 a.d a.imm)
full_code (instr.Branch a) = Some (branch_code (condition_number a.cond) a.offset)
full_code (instr.ZeroBranch a) = None
full_code (instr.Call a) = Some (far_branch 3 (word_of a.offset))
full_code (instr.Jump a) = None
full_code (instr.CallReg a) = None
full_code (instr.It a) = None
full_code (instr.Nothing a) = Some (nothing_code a.op a.option)
full_code (instr.Trap a) = None
