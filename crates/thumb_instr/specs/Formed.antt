-- Instructions that halfwords can stand for.
use Rattle.std.specs.Prelude.{ℕ, ◌≡◌, ◌≤◌, ◌==◌, ◌&&◌, not, Bool, true, false, ⊤, Ok, Option, Some, None}
use Rattle.thumb_instr.specs.declared.operands.Operand.{Operand}
use Rattle.thumb_instr.specs.declared.operands.Operand.TheVariants.{Imm, Reg}
use Rattle.thumb_instr.specs.declared.places.Place.{Place}
use Rattle.thumb_instr.specs.declared.places.Place.TheVariants.{Offset, Pre, Post, Index}
use Rattle.thumb_instr.specs.declared.instructions.Instr.{Instr}
use Rattle.thumb_instr.specs.declared.instructions.Instr.TheVariants.{Alu, Move, Test, ShiftBy, Wide, Half, Field, Unary, Mul, MulAcc, LongMul, Div, Access, Pair, Multi, Literal, Adr, Branch, ZeroBranch, Call, Jump, CallReg, It, Nothing, Trap}
use Rattle.thumb_instr.specs.declared.refusals.ItPlace.{ItPlace}
use Rattle.thumb_instr.specs.Operands.{is_operand, goes_by_register, is_number_of_12_bits, is_field, is_turn, is_place, is_pair_offset, is_list, is_even, is_short, is_mask, takes_option, is_byte}
use Rattle.thumb_instr.specs.Sets.{reads_of, sets_flags_of}
use Rattle.thumb_instr.specs.Rows.{is_wide, decode}

-- from r0 to lr
abbrev pub IsRegister : ℕ → Type 0
IsRegister r = r ≤ 14

abbrev pub IsSource : Option ℕ → Type 0
IsSource None = ⊤
IsSource (Some n) = IsRegister n

abbrev pub OperandNamesRegisters : Operand → Type 0
OperandNamesRegisters (Imm i) = ⊤
OperandNamesRegisters (Reg m kind amount) = IsRegister m

abbrev pub PlaceNamesRegisters : Place → Type 0
PlaceNamesRegisters (Offset up imm) = ⊤
PlaceNamesRegisters (Pre up imm) = ⊤
PlaceNamesRegisters (Post up imm) = ⊤
PlaceNamesRegisters (Index m shift) = IsRegister m

abbrev pub NamesRegisters : Instr → Type 0
NamesRegisters (Alu i) = IsRegister i.d × IsRegister i.n × OperandNamesRegisters i.x
NamesRegisters (Move i) = IsRegister i.d × OperandNamesRegisters i.x
NamesRegisters (Test i) = IsRegister i.n × OperandNamesRegisters i.x
NamesRegisters (ShiftBy i) = IsRegister i.d × IsRegister i.n × IsRegister i.m
NamesRegisters (Wide i) = IsRegister i.d × IsRegister i.n
NamesRegisters (Half i) = IsRegister i.d
NamesRegisters (Field i) = IsRegister i.d × IsSource i.n
NamesRegisters (Unary i) = IsRegister i.d × IsRegister i.m
NamesRegisters (Mul i) = IsRegister i.d × IsRegister i.n × IsRegister i.m
NamesRegisters (MulAcc i) = IsRegister i.d × IsRegister i.n × IsRegister i.m × IsRegister i.a
NamesRegisters (LongMul i) = IsRegister i.lo × IsRegister i.hi × IsRegister i.n × IsRegister i.m
NamesRegisters (Div i) = IsRegister i.d × IsRegister i.n × IsRegister i.m
NamesRegisters (Access i) = IsRegister i.t × IsRegister i.n × PlaceNamesRegisters i.place
NamesRegisters (Pair i) = IsRegister i.t × IsRegister i.u × IsRegister i.n
NamesRegisters (Multi i) = IsRegister i.n
NamesRegisters (Literal i) = IsRegister i.t
NamesRegisters (Adr i) = IsRegister i.d
NamesRegisters (ZeroBranch i) = IsRegister i.n
NamesRegisters (Jump i) = IsRegister i.m
NamesRegisters (CallReg i) = IsRegister i.m
NamesRegisters i = ⊤

-- The other fields are ones that the instruction takes, and a long product goes to two registers.
abbrev pub TakesFields : Instr → Type 0
TakesFields (Alu i) = is_operand i.x ≡ true
TakesFields (Move i) = is_operand i.x ≡ true
TakesFields (Test i) = is_operand i.x ≡ true
TakesFields (ShiftBy i) = goes_by_register i.kind ≡ true
TakesFields (Wide i) = is_number_of_12_bits i.imm ≡ true
TakesFields (Field i) = is_field i.op i.n i.lsb i.width ≡ true
TakesFields (Unary i) = is_turn i.op i.turn ≡ true
TakesFields (LongMul i) = not (i.lo == i.hi) ≡ true
TakesFields (Access i) = is_place i.place ≡ true
TakesFields (Pair i) = is_pair_offset i.imm ≡ true
TakesFields (Multi i) = is_list i.list.0 i.pc ≡ true
TakesFields (Literal i) = is_number_of_12_bits i.imm ≡ true
TakesFields (Adr i) = is_number_of_12_bits i.imm ≡ true
TakesFields (Branch i) = is_even i.offset ≡ true
TakesFields (ZeroBranch i) = is_short i.offset ≡ true
TakesFields (Call i) = is_even i.offset ≡ true
TakesFields (It i) = is_mask i.mask ≡ true
TakesFields (Nothing i) = takes_option i.op i.option ≡ true
TakesFields (Trap i) = is_byte i.imm ≡ true
TakesFields i = ⊤

-- Only a load has pc in its list.
abbrev pub LoadsPc : Instr → Type 0
LoadsPc (Multi i) = i.pc ≡ true → i.load ≡ true
LoadsPc i = ⊤

pub record IsFormed (i : Instr) : Type 0 where
  pub registers : NamesRegisters i
  pub fields : TakesFields i
  pub pc : LoadsPc i

-- BL, MOVW and MOVT are always of two halfwords.
abbrev pub is_always_wide : Instr → Bool
is_always_wide (Call i) = true
is_always_wide (Half i) = true
is_always_wide i = false

-- Whatever halfwords stand for is formed.
abbrev pub DecodesFormed : Type 0
DecodesFormed = (place : ItPlace) (first second : ℕ) (i : Instr) → decode place first second ≡ Ok i → IsFormed i

-- A halfword alone is never BL, MOVW or MOVT.
abbrev pub DecodesWide : Type 0
DecodesWide = (place : ItPlace) (first second : ℕ) (i : Instr) → decode place first second ≡ Ok i → is_wide first ≡ false → is_always_wide i ≡ false

-- No instruction both reads and sets C, which is member 18.
abbrev pub DecodesCarryOnce : Type 0
DecodesCarryOnce = (place : ItPlace) (first second : ℕ) (i : Instr) → decode place first second ≡ Ok i → (reads_of i 18 && sets_flags_of i 18) ≡ false
