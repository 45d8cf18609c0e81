-- Which instructions read members alone.
use Rattle.std.specs.Prelude.{◌≡◌, ℕ, true, List, ⊤}
use Rattle.thumb_instr.specs.declared.register_sets.RegSet.{RegSet}
use Rattle.thumb_instr.specs.declared.instructions.Instr.{Instr}
use Rattle.thumb_instr.specs.declared.instructions.Instr.TheVariants.{Alu, Move, Test, ShiftBy, Wide, Half, Field, Unary, Mul, MulAcc, LongMul, Div, Access, Pair, Multi, ZeroBranch, Jump, CallReg}
use Rattle.thumb_instr.specs.Operands.{is_list}
use Rattle.thumb_instr.specs.Sets.{is_member}
use Rattle.thumb_instr.specs.Formed.{IsRegister, IsSource, OperandNamesRegisters, PlaceNamesRegisters}
use Rattle.liveness.specs.Sets.{holds_at}

-- the numbers that it reads by are those of registers
abbrev pub ReadsRegisters : Instr → Type 0
ReadsRegisters (Alu i) = IsRegister i.n × OperandNamesRegisters i.x
ReadsRegisters (Move i) = OperandNamesRegisters i.x
ReadsRegisters (Test i) = IsRegister i.n × OperandNamesRegisters i.x
ReadsRegisters (ShiftBy i) = IsRegister i.n × IsRegister i.m
ReadsRegisters (Wide i) = IsRegister i.n
ReadsRegisters (Half i) = IsRegister i.d
ReadsRegisters (Field i) = IsRegister i.d × IsSource i.n
ReadsRegisters (Unary i) = IsRegister i.m
ReadsRegisters (Mul i) = IsRegister i.n × IsRegister i.m
ReadsRegisters (MulAcc i) = IsRegister i.n × IsRegister i.m × IsRegister i.a
ReadsRegisters (LongMul i) = IsRegister i.n × IsRegister i.m × IsRegister i.lo × IsRegister i.hi
ReadsRegisters (Div i) = IsRegister i.n × IsRegister i.m
ReadsRegisters (Access i) = IsRegister i.n × IsRegister i.t × PlaceNamesRegisters i.place
ReadsRegisters (Pair i) = IsRegister i.n × IsRegister i.t × IsRegister i.u
ReadsRegisters (Multi i) = IsRegister i.n × (is_list i.list.0 i.pc ≡ true)
ReadsRegisters (ZeroBranch i) = IsRegister i.n
ReadsRegisters (Jump i) = IsRegister i.m
ReadsRegisters (CallReg i) = IsRegister i.m
ReadsRegisters i = ⊤

-- the sets hold members alone
abbrev pub HoldMembers : List RegSet → Type 0
HoldMembers sets = (p k : ℕ) → holds_at sets p k ≡ true → is_member k ≡ true
