-- The names of instructions, conditions, shifts and registers.
use Rattle.std.specs.Prelude.{ℕ, ◌==◌, Bool, true, false, List, [], ◌++◌, codes, if◌then◌else◌}
use Rattle.std.specs.Fmt.{decimal}
use Rattle.mark_word.specs.declared.numbers.Shift.{Shift}
use Rattle.mark_word.specs.declared.numbers.Shift.TheVariants.{Lsl, Lsr, Asr, Ror, Rrx}
use Rattle.thumb_instr.specs.declared.operations.AluOp.{AluOp}
use Rattle.thumb_instr.specs.declared.operations.AluOp.TheVariants.{And, Bic, Orr, Orn, Eor, Add, Adc, Sbc, Sub, Rsb}
use Rattle.thumb_instr.specs.declared.operations.MoveOp.{MoveOp}
use Rattle.thumb_instr.specs.declared.operations.MoveOp.TheVariants.{Mov, Mvn}
use Rattle.thumb_instr.specs.declared.operations.TestOp.{TestOp}
use Rattle.thumb_instr.specs.declared.operations.TestOp.TheVariants.{Tst, Teq, Cmn, Cmp}
use Rattle.thumb_instr.specs.declared.operations.WideOp.{WideOp}
use Rattle.thumb_instr.specs.declared.operations.WideOp.TheVariants.{Add as WideAdd, Sub as WideSub}
use Rattle.thumb_instr.specs.declared.operations.FieldOp.{FieldOp}
use Rattle.thumb_instr.specs.declared.operations.FieldOp.TheVariants.{Sbfx, Ubfx, Bfi, Bfc}
use Rattle.thumb_instr.specs.declared.operations.UnaryOp.{UnaryOp}
use Rattle.thumb_instr.specs.declared.operations.UnaryOp.TheVariants.{Sxth, Sxtb, Uxth, Uxtb, Rev, Rev16, Revsh, Rbit, Clz}
use Rattle.thumb_instr.specs.declared.operations.LongMulOp.{LongMulOp}
use Rattle.thumb_instr.specs.declared.operations.LongMulOp.TheVariants.{Smull, Umull, Smlal, Umlal}
use Rattle.thumb_instr.specs.declared.operations.AccessOp.{AccessOp}
use Rattle.thumb_instr.specs.declared.operations.AccessOp.TheVariants.{Ldr, Ldrb, Ldrh, Ldrsb, Ldrsh, Str, Strb, Strh}
use Rattle.thumb_instr.specs.declared.operations.NothingOp.{NothingOp}
use Rattle.thumb_instr.specs.declared.operations.NothingOp.TheVariants.{Nop, Dmb, Dsb, Isb}
use Rattle.thumb_instr.specs.declared.conditions.Cond.{Cond}
use Rattle.thumb_instr.specs.declared.conditions.Cond.TheVariants.{Eq, Ne, Cs, Cc, Mi, Pl, Vs, Vc, Hi, Ls, Ge, Lt, Gt, Le, Al}

abbrev pub alu_name : AluOp → List ℕ
alu_name And = codes "and"
alu_name Bic = codes "bic"
alu_name Orr = codes "orr"
alu_name Orn = codes "orn"
alu_name Eor = codes "eor"
alu_name Add = codes "add"
alu_name Adc = codes "adc"
alu_name Sbc = codes "sbc"
alu_name Sub = codes "sub"
alu_name Rsb = codes "rsb"

abbrev pub move_name : MoveOp → List ℕ
move_name Mov = codes "mov"
move_name Mvn = codes "mvn"

abbrev pub test_name : TestOp → List ℕ
test_name Tst = codes "tst"
test_name Teq = codes "teq"
test_name Cmn = codes "cmn"
test_name Cmp = codes "cmp"

abbrev pub shift_name : Shift → List ℕ
shift_name Lsl = codes "lsl"
shift_name Lsr = codes "lsr"
shift_name Asr = codes "asr"
shift_name Ror = codes "ror"
shift_name Rrx = codes "rrx"

abbrev pub wide_name : WideOp → List ℕ
wide_name WideAdd = codes "addw"
wide_name WideSub = codes "subw"

-- MOVT writes the top half
abbrev pub half_name : Bool → List ℕ
half_name true = codes "movt"
half_name false = codes "movw"

abbrev pub field_name : FieldOp → List ℕ
field_name Sbfx = codes "sbfx"
field_name Ubfx = codes "ubfx"
field_name Bfi = codes "bfi"
field_name Bfc = codes "bfc"

abbrev pub unary_name : UnaryOp → List ℕ
unary_name Sxth = codes "sxth"
unary_name Sxtb = codes "sxtb"
unary_name Uxth = codes "uxth"
unary_name Uxtb = codes "uxtb"
unary_name Rev = codes "rev"
unary_name Rev16 = codes "rev16"
unary_name Revsh = codes "revsh"
unary_name Rbit = codes "rbit"
unary_name Clz = codes "clz"

-- MLS subtracts the product
abbrev pub mul_acc_name : Bool → List ℕ
mul_acc_name true = codes "mls"
mul_acc_name false = codes "mla"

abbrev pub long_mul_name : LongMulOp → List ℕ
long_mul_name Smull = codes "smull"
long_mul_name Umull = codes "umull"
long_mul_name Smlal = codes "smlal"
long_mul_name Umlal = codes "umlal"

-- SDIV divides signed numbers
abbrev pub div_name : Bool → List ℕ
div_name true = codes "sdiv"
div_name false = codes "udiv"

abbrev pub access_name : AccessOp → List ℕ
access_name Ldr = codes "ldr"
access_name Ldrb = codes "ldrb"
access_name Ldrh = codes "ldrh"
access_name Ldrsb = codes "ldrsb"
access_name Ldrsh = codes "ldrsh"
access_name Str = codes "str"
access_name Strb = codes "strb"
access_name Strh = codes "strh"

-- a load or a store
abbrev pub pair_name : Bool → List ℕ
pair_name true = codes "ldrd"
pair_name false = codes "strd"

-- a load or a store, of words below the base or from it upwards
abbrev pub multi_name : Bool → Bool → List ℕ
multi_name true false = codes "ldmia"
multi_name true true = codes "ldmdb"
multi_name false false = codes "stmia"
multi_name false true = codes "stmdb"

abbrev pub cond_name : Cond → List ℕ
cond_name Eq = codes "eq"
cond_name Ne = codes "ne"
cond_name Cs = codes "cs"
cond_name Cc = codes "cc"
cond_name Mi = codes "mi"
cond_name Pl = codes "pl"
cond_name Vs = codes "vs"
cond_name Vc = codes "vc"
cond_name Hi = codes "hi"
cond_name Ls = codes "ls"
cond_name Ge = codes "ge"
cond_name Lt = codes "lt"
cond_name Gt = codes "gt"
cond_name Le = codes "le"
cond_name Al = codes "al"

-- a branch without a condition is `b` alone
abbrev pub branch_name : Cond → List ℕ
branch_name Al = codes "b"
branch_name cond = codes "b" ++ cond_name cond

-- CBNZ branches where the register is not zero
abbrev pub zero_branch_name : Bool → List ℕ
zero_branch_name true = codes "cbnz"
zero_branch_name false = codes "cbz"

abbrev pub nothing_name : NothingOp → List ℕ
nothing_name Nop = codes "nop"
nothing_name Dmb = codes "dmb"
nothing_name Dsb = codes "dsb"
nothing_name Isb = codes "isb"

-- `s` follows a name where flags are set
abbrev pub flag_mark : Bool → List ℕ
flag_mark true = codes "s"
flag_mark false = []

abbrev pub register : ℕ → List ℕ
register r = if r == 13 then codes "sp" else if r == 14 then codes "lr" else codes "r" ++ decimal r
