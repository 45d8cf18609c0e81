-- Which instructions have a code of two halfwords outside of IT blocks (ARMv7-M ARM, A5.3), of those that name registers
-- from r0 to lr and take their fields.
use Rattle.std.specs.Prelude.{ℕ, ℤ, pos, negsuc, ◌+◌, ◌-◌, ◌^◌, ◌==◌, ◌&&◌, ◌||◌, nat_lt, not, Bool, true, false, List, [], ◌∷◌, Option, Some, None, if◌then◌else◌, IsTrue, ◌↔◌}
use Rattle.std.specs.List.{list_any}
use Rattle.thumb_instr.specs.declared.places.Place.{Place}
use Rattle.thumb_instr.specs.declared.places.Place.TheVariants.{Offset, Pre, Post, Index}
use Rattle.thumb_instr.specs.declared.places.PairIndex.{PairIndex}
use Rattle.thumb_instr.specs.declared.places.PairIndex.TheVariants as index
use Rattle.thumb_instr.specs.declared.conditions.Cond.{Cond}
use Rattle.thumb_instr.specs.declared.conditions.Cond.TheVariants.{Al}
use Rattle.thumb_instr.specs.declared.instructions.Instr.{Instr}
use Rattle.thumb_instr.specs.declared.instructions.Instr.TheVariants as instr
use Rattle.thumb_instr.specs.Fields.{AluFields, MoveFields, TestFields, PairFields, MultiFields}
use Rattle.thumb_instr.specs.Operands.{has}
use Rattle.thumb_instr.specs.Sets.{sums_with_carry}
use Rattle.thumb_instr.specs.DataRows.{names, is_rrx, has_odd_sp, is_copy, takes_sp}
use Rattle.mark_word.specs.Formulas.{one_if}
use Rattle.thumb_instr.specs.FullRows.{members}
use Rattle.thumb_instr.specs.Formed.{NamesRegisters, TakesFields}
use Rattle.thumb_encode.specs.declared.codes.Code.TheVariants as code
use Rattle.thumb_encode.specs.Encoding.{StandsFor}

-- sp is none of them
abbrev pub lacks_sp : List ℕ → Bool
lacks_sp rs = not (list_any (λ r. r == 13) rs)

abbrev pub source_of : Option ℕ → List ℕ
source_of None = []
source_of (Some n) = n ∷ []

-- a signed number of w bits
abbrev pub is_signed : ℕ → ℤ → Bool
is_signed w (pos n) = nat_lt n (2 ^ (w - 1))
is_signed w (negsuc n) = nat_lt n (2 ^ (w - 1))

-- sp stands only where it may, and flags are not both read and set
abbrev pub alu_has_full : AluFields → Bool
alu_has_full i = not (has_odd_sp i.op i.d i.n i.x) && not (i.s && (sums_with_carry i.op || is_rrx i.x))

-- a copy of a register has sp on one side at most, any other move on none; flags are not both read and set
abbrev pub move_has_full : MoveFields → Bool
move_has_full i =
    not (if is_copy i.op i.s i.x then (i.d == 13) && names 13 i.x else (i.d == 13) || names 13 i.x) && not (i.s && is_rrx i.x)

-- CMN and CMP alone take sp, as their first operand
abbrev pub test_has_full : TestFields → Bool
test_has_full i = not ((i.n == 13) && not (takes_sp i.op)) && not (names 13 i.x) && not (is_rrx i.x)

-- an offset has 12 bits upwards and 8 downwards or with a change of the base, which then is not transferred
abbrev pub place_has_full : ℕ → ℕ → Place → Bool
place_has_full t n (Offset true imm) = nat_lt imm 4096
place_has_full t n (Offset false imm) = nat_lt imm 256
place_has_full t n (Pre up imm) = nat_lt imm 256 && not (n == t)
place_has_full t n (Post up imm) = nat_lt imm 256 && not (n == t)
place_has_full t n (Index m shift) = not (m == 13)

abbrev pub is_changed : PairIndex → Bool
is_changed index.Offset = false
is_changed index.Pre = true
is_changed index.Post = true

-- a register is loaded once, and a base that changes is not transferred
abbrev pub pair_has_full : PairFields → Bool
pair_has_full i = lacks_sp (i.t ∷ i.u ∷ []) && not (i.load && (i.t == i.u)) && not (is_changed i.index && ((i.n == i.t) || (i.n == i.u)))

-- LDM of sp, upwards and with a change of the base
abbrev pub is_pop : MultiFields → Bool
is_pop i = i.load && not i.down && i.back && (i.n == 13)

-- pc is loaded by a pop, and may be the only one; else there are two registers or more, lr and pc are not both loaded,
-- and a base that changes is not transferred
abbrev pub multi_has_full : MultiFields → Bool
multi_has_full i =
    not (i.pc && not (is_pop i))
    && ((i.list.0 == 0) || not (nat_lt (members 15 i.list.0 + one_if i.pc) 2 || (i.pc && has i.list.0 14) || (i.back && has i.list.0 i.n)))

abbrev pub is_always : Cond → Bool
is_always Al = true
is_always c = false

unfoldable pub has_full : Instr → Bool
has_full (instr.Alu i) = alu_has_full i
has_full (instr.Move i) = move_has_full i
has_full (instr.Test i) = test_has_full i
has_full (instr.ShiftBy i) = lacks_sp (i.d ∷ i.n ∷ i.m ∷ [])
has_full (instr.Wide i) = not ((i.d == 13) && not (i.n == 13))
has_full (instr.Half i) = lacks_sp (i.d ∷ []) && nat_lt i.imm (2 ^ 16)
has_full (instr.Field i) = lacks_sp (i.d ∷ source_of i.n)
has_full (instr.Unary i) = lacks_sp (i.d ∷ i.m ∷ [])
has_full (instr.Mul i) = not i.s && lacks_sp (i.d ∷ i.n ∷ i.m ∷ [])
has_full (instr.MulAcc i) = lacks_sp (i.d ∷ i.n ∷ i.m ∷ i.a ∷ [])
has_full (instr.LongMul i) = lacks_sp (i.lo ∷ i.hi ∷ i.n ∷ i.m ∷ [])
has_full (instr.Div i) = lacks_sp (i.d ∷ i.n ∷ i.m ∷ [])
has_full (instr.Access i) = lacks_sp (i.t ∷ []) && place_has_full i.t i.n i.place
has_full (instr.Pair i) = pair_has_full i
has_full (instr.Multi i) = multi_has_full i
has_full (instr.Literal i) = lacks_sp (i.t ∷ [])
has_full (instr.Adr i) = lacks_sp (i.d ∷ [])
has_full (instr.Branch i) = is_signed (if is_always i.cond then 25 else 21) i.offset
has_full (instr.Call i) = is_signed 25 i.offset
has_full (instr.Nothing i) = true
has_full (instr.ZeroBranch i) = false
has_full (instr.Jump i) = false
has_full (instr.CallReg i) = false
has_full (instr.It i) = false
has_full (instr.Trap i) = false

-- two halfwords that stand for it outside of IT blocks
abbrev pub HasCode : Instr → Type 0
HasCode i = (first : ℕ) × (second : ℕ) × StandsFor (code.Full first second) i

-- Of the instructions that name registers and take their fields, as formed ones do, exactly those that the test takes
-- have a code of two halfwords.
abbrev pub TellsCodes : Type 0
TellsCodes = (i : Instr) → NamesRegisters i → TakesFields i → IsTrue (has_full i) ↔ HasCode i
