-- The line of a listing that shows an instruction.
use Rattle.std.specs.Prelude.{ℕ, ◌==◌, List, [], ◌∷◌, ◌++◌, codes, Option, Some, None, if◌then◌else◌}
use Rattle.std.specs.Fmt.{decimal}
use Rattle.thumb_instr.specs.declared.operations.NothingOp.TheVariants.{Nop}
use Rattle.thumb_instr.specs.declared.operations.NothingOp.{NothingOp}
use Rattle.thumb_instr.specs.Fields.{AluFields, MoveFields, TestFields, ShiftByFields, WideFields, HalfFields, FieldFields, UnaryFields, MulFields, MulAccFields, LongMulFields, DivFields, AccessFields, PairFields, MultiFields, LiteralFields, AdrFields, BranchFields, ZeroBranchFields, CallFields, JumpFields, CallRegFields, ItFields, NothingFields, TrapFields}
use Rattle.thumb_instr.specs.declared.instructions.Instr.{Instr}
use Rattle.thumb_instr.specs.declared.instructions.Instr.TheVariants.{Alu, Move, Test, ShiftBy, Wide, Half, Field, Unary, Mul, MulAcc, LongMul, Div, Access, Pair, Multi, Literal, Adr, Branch, ZeroBranch, Call, Jump, CallReg, It, Nothing, Trap}
use Rattle.thumb_text.specs.Names.{alu_name, move_name, test_name, shift_name, wide_name, half_name, field_name, unary_name, mul_acc_name, long_mul_name, div_name, access_name, pair_name, multi_name, cond_name, branch_name, zero_branch_name, nothing_name, flag_mark, register}
use Rattle.thumb_text.specs.Pieces.{words, hex_word, numeral, operand, memory, pair_place, transferred, base, address, branched, beside}

abbrev pub alu_text : AluFields → List ℕ
alu_text i = words (alu_name i.op ++ flag_mark i.s) (register i.d ∷ register i.n ∷ operand i.x)

abbrev pub move_text : MoveFields → List ℕ
move_text i = words (move_name i.op ++ flag_mark i.s) (register i.d ∷ operand i.x)

abbrev pub test_text : TestFields → List ℕ
test_text i = words (test_name i.op) (register i.n ∷ operand i.x)

abbrev pub shift_by_text : ShiftByFields → List ℕ
shift_by_text i = words (shift_name i.kind ++ flag_mark i.s) (register i.d ∷ register i.n ∷ register i.m ∷ [])

abbrev pub wide_text : WideFields → List ℕ
wide_text i = words (wide_name i.op) (register i.d ∷ register i.n ∷ numeral i.imm ∷ [])

abbrev pub half_text : HalfFields → List ℕ
half_text i = words (half_name i.top) (register i.d ∷ numeral i.imm ∷ [])

abbrev pub field_text : FieldFields → List ℕ
field_text i = words (field_name i.op) (register i.d ∷ source i.n ++ numeral i.lsb ∷ numeral i.width ∷ [])
  where
    source : Option ℕ → List (List ℕ)
    source (Some n) = register n ∷ []
    source None = []

abbrev pub unary_text : UnaryFields → List ℕ
unary_text i = words (unary_name i.op) (register i.d ∷ register i.m ∷ (if i.turn == 0 then [] else (codes "ror #" ++ decimal i.turn) ∷ []))

abbrev pub mul_text : MulFields → List ℕ
mul_text i = words (codes "mul" ++ flag_mark i.s) (register i.d ∷ register i.n ∷ register i.m ∷ [])

abbrev pub mul_acc_text : MulAccFields → List ℕ
mul_acc_text i = words (mul_acc_name i.minus) (register i.d ∷ register i.n ∷ register i.m ∷ register i.a ∷ [])

abbrev pub long_mul_text : LongMulFields → List ℕ
long_mul_text i = words (long_mul_name i.op) (register i.lo ∷ register i.hi ∷ register i.n ∷ register i.m ∷ [])

abbrev pub div_text : DivFields → List ℕ
div_text i = words (div_name i.signed) (register i.d ∷ register i.n ∷ register i.m ∷ [])

abbrev pub access_text : AccessFields → List ℕ
access_text i = words (access_name i.op) (register i.t ∷ memory i.n i.place ∷ [])

abbrev pub pair_text : PairFields → List ℕ
pair_text i = words (pair_name i.load) (register i.t ∷ register i.u ∷ memory i.n (pair_place i.index i.up i.imm) ∷ [])

abbrev pub multi_text : MultiFields → List ℕ
multi_text i = words (multi_name i.load i.down) (base i.n i.back ∷ transferred i.list.0 i.pc ∷ [])

abbrev pub literal_text : LiteralFields → ℕ → List ℕ
literal_text i at = words (codes "ldr") (register i.t ∷ address (beside at i.up i.imm) ∷ [])

abbrev pub adr_text : AdrFields → ℕ → List ℕ
adr_text i at = words (codes "adr") (register i.d ∷ address (beside at i.up i.imm) ∷ [])

abbrev pub branch_text : BranchFields → ℕ → List ℕ
branch_text i at = words (branch_name i.cond) (address (branched at i.offset) ∷ [])

abbrev pub zero_branch_text : ZeroBranchFields → ℕ → List ℕ
zero_branch_text i at = words (zero_branch_name i.nonzero) (register i.n ∷ address (branched at i.offset) ∷ [])

abbrev pub call_text : CallFields → ℕ → List ℕ
call_text i at = words (codes "bl") (address (branched at i.offset) ∷ [])

abbrev pub jump_text : JumpFields → List ℕ
jump_text i = words (codes "bx") (register i.m ∷ [])

abbrev pub call_reg_text : CallRegFields → List ℕ
call_reg_text i = words (codes "blx") (register i.m ∷ [])

abbrev pub it_text : ItFields → List ℕ
it_text i = words (codes "it") (cond_name i.first ∷ numeral i.mask ∷ [])

-- the option of a barrier; NOP has none
abbrev pub option_of : NothingOp → ℕ → List (List ℕ)
option_of Nop option = []
option_of op option = numeral option ∷ []

abbrev pub nothing_text : NothingFields → List ℕ
nothing_text i = words (nothing_name i.op) (option_of i.op i.option)

abbrev pub trap_text : TrapFields → List ℕ
trap_text i = words (codes "udf") (numeral i.imm ∷ [])

-- an instruction at an address, by its name and operands
abbrev pub text_of : Instr → ℕ → List ℕ
text_of (Alu i) at = alu_text i
text_of (Move i) at = move_text i
text_of (Test i) at = test_text i
text_of (ShiftBy i) at = shift_by_text i
text_of (Wide i) at = wide_text i
text_of (Half i) at = half_text i
text_of (Field i) at = field_text i
text_of (Unary i) at = unary_text i
text_of (Mul i) at = mul_text i
text_of (MulAcc i) at = mul_acc_text i
text_of (LongMul i) at = long_mul_text i
text_of (Div i) at = div_text i
text_of (Access i) at = access_text i
text_of (Pair i) at = pair_text i
text_of (Multi i) at = multi_text i
text_of (Literal i) at = literal_text i at
text_of (Adr i) at = adr_text i at
text_of (Branch i) at = branch_text i at
text_of (ZeroBranch i) at = zero_branch_text i at
text_of (Call i) at = call_text i at
text_of (Jump i) at = jump_text i
text_of (CallReg i) at = call_reg_text i
text_of (It i) at = it_text i
text_of (Nothing i) at = nothing_text i
text_of (Trap i) at = trap_text i

-- the address in eight digits, two spaces and the instruction
unfoldable pub line_of : Instr → ℕ → List ℕ
line_of i at = hex_word at ++ codes "  " ++ text_of i at
