-- In which of fifteen ways an instruction is replaced.
use Rattle.std.specs.Prelude.{◌≡◌, ◌==◌, ◌&&◌, ◌||◌, not, Bool, true, false}
use Rattle.thumb_instr.specs.declared.operations.AluOp.{AluOp}
use Rattle.thumb_instr.specs.declared.operations.AluOp.TheVariants as alu
use Rattle.thumb_instr.specs.declared.instructions.Instr.{Instr}
use Rattle.thumb_instr.specs.declared.instructions.Instr.TheVariants.{Alu, Wide, Mul, LongMul, Access, Pair, Multi, Adr, ZeroBranch, Call, Jump, CallReg, It}
use Rattle.thumb_instr.specs.Operands.{has}
use Rattle.thumb_instr.specs.Sets.{accumulates, moves_base, moves_pair_base}
use Rattle.thumb_instr.specs.Idempotence.{IsIdempotent, KeepsSources, fills_in}
use Rattle.seq_core.specs.declared.classes.Class.{Class}
use Rattle.seq_core.specs.declared.classes.Class.TheVariants.{Twice, Through, ThroughFlags, WriteBack, BaseCopy, LongSum, Push, Pop, PopReturn, SpStep, MultiBack, DirectCall, RegisterCall, RegisterJump, ZeroBranch as Zero}

-- Sums and differences without the carry.
abbrev pub adds_or_subtracts : AluOp → Bool
adds_or_subtracts alu.And = false
adds_or_subtracts alu.Bic = false
adds_or_subtracts alu.Orr = false
adds_or_subtracts alu.Orn = false
adds_or_subtracts alu.Eor = false
adds_or_subtracts alu.Add = true
adds_or_subtracts alu.Adc = false
adds_or_subtracts alu.Sbc = false
adds_or_subtracts alu.Sub = true
adds_or_subtracts alu.Rsb = false

-- sp plus or minus something, put into sp
abbrev pub steps_stack : Instr → Bool
steps_stack (Alu i) = adds_or_subtracts i.op && ((i.d == 13) && (i.n == 13))
steps_stack (Wide i) = (i.d == 13) && (i.n == 13)
steps_stack i = false

-- MULS
abbrev pub sets_product_flags : Instr → Bool
sets_product_flags (Mul i) = i.s
sets_product_flags i = false

-- a load or store of one register, or of two, that moves its base
abbrev pub writes_base_back : Instr → Bool
writes_base_back (Access i) = moves_base i.place
writes_base_back (Pair i) = moves_pair_base i.index
writes_base_back i = false

-- a load of two registers, or of a list without pc, whose base is loaded and does not move
abbrev pub loads_own_base : Instr → Bool
loads_own_base (Pair i) = i.load && (not (moves_pair_base i.index) && ((i.n == i.t) || (i.n == i.u)))
loads_own_base (Multi i) = i.load && (not i.back && (not i.pc && has i.list.0 i.n))
loads_own_base i = false

-- SMLAL and UMLAL
abbrev pub adds_long_product : Instr → Bool
adds_long_product (LongMul i) = accumulates i.op
adds_long_product i = false

-- a store below sp, which moves there
abbrev pub pushes : Instr → Bool
pushes (Multi i) = not i.pc && (i.back && (not i.load && (i.down && (i.n == 13))))
pushes i = false

-- a load from sp upwards, which moves behind it, without pc
abbrev pub pops : Instr → Bool
pops (Multi i) = not i.pc && (i.back && (i.load && (not i.down && (i.n == 13))))
pops i = false

-- a load of a list with pc: a return
abbrev pub has_pc : Instr → Bool
has_pc (Multi i) = i.pc
has_pc i = false

-- a load or store of a list without pc that moves its base
abbrev pub moves_list_base : Instr → Bool
moves_list_base (Multi i) = not i.pc && i.back
moves_list_base i = false

abbrev pub calls : Instr → Bool
calls (Call i) = true
calls i = false

abbrev pub calls_register : Instr → Bool
calls_register (CallReg i) = true
calls_register i = false

abbrev pub jumps_to_register : Instr → Bool
jumps_to_register (Jump i) = true
jumps_to_register i = false

abbrev pub branches_on_zero : Instr → Bool
branches_on_zero (ZeroBranch i) = true
branches_on_zero i = false

-- Which instructions the row of a class names by their form. Twice and Through name none: they are for the others.
abbrev pub names : Class → Instr → Bool
names Twice i = false
names Through i = false
names ThroughFlags i = sets_product_flags i
names WriteBack i = writes_base_back i
names BaseCopy i = loads_own_base i
names LongSum i = adds_long_product i
names Push i = pushes i
names Pop i = pops i
names PopReturn i = has_pc i
names SpStep i = steps_stack i
names MultiBack i = moves_list_base i && (not (pushes i) && not (pops i))
names DirectCall i = calls i
names RegisterCall i = calls_register i
names RegisterJump i = jumps_to_register i
names Zero i = branches_on_zero i

-- An instruction is of the class that names it. Of the others those are Twice that may be executed twice in a row for
-- once: they read no destination, or only bits of it that they keep. The rest, which has a destination that it reads,
-- is Through.
abbrev pub IsOf : Class → Instr → Type 0
IsOf Twice i = IsIdempotent i
IsOf Through i = (¬ KeepsSources i) × (fills_in i ≡ false) × ((c : Class) → names c i ≡ false)
IsOf c i = names c i ≡ true

-- ADR and IT are of no class.
abbrev pub has_no_class : Instr → Bool
has_no_class (Adr i) = true
has_no_class (It i) = true
has_no_class i = false

-- Each other instruction is of one class, and of no other.
abbrev pub ClassesCover : Type 0
ClassesCover = (i : Instr) → has_no_class i ≡ false → (c : Class) × (IsOf c i × ((d : Class) → IsOf d i → c ≡ d))

abbrev pub ClassesApart : Type 0
ClassesApart = (i : Instr) (c : Class) → has_no_class i ≡ true → ¬ IsOf c i
