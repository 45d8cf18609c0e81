-- How many scratch registers a sequence needs, and whether it needs the flags.
use Rattle.std.specs.Prelude.{ℕ, ◌+◌, ◌≤◌, ◌==◌, Bool, true, false}
use Rattle.mark_word.specs.Formulas.{one_if}
use Rattle.thumb_instr.specs.declared.instructions.Instr.{Instr}
use Rattle.thumb_instr.specs.declared.instructions.Instr.TheVariants.{Alu, Move, ShiftBy, Wide, Field, Unary, Mul, MulAcc, LongMul, Div, Access, CallReg}
use Rattle.thumb_instr.specs.Sets.{reads_of}
use Rattle.seq_core.specs.declared.classes.Class.{Class}
use Rattle.seq_core.specs.declared.classes.Class.TheVariants.{Twice, Through, ThroughFlags, WriteBack, BaseCopy, LongSum, Push, Pop, PopReturn, SpStep, MultiBack, DirectCall, RegisterCall, RegisterJump, ZeroBranch}
use Rattle.seq_core.specs.Classes.{IsOf}
use Rattle.seq_core.specs.declared.needs.Need.{Need}

-- one for each destination that the instruction reads; what goes through a scratch register has one destination, or
-- two for a product of 64 bits
abbrev pub read_destinations : Instr → ℕ
read_destinations (Alu i) = one_if (reads_of (Alu i) i.d)
read_destinations (Move i) = one_if (reads_of (Move i) i.d)
read_destinations (ShiftBy i) = one_if (reads_of (ShiftBy i) i.d)
read_destinations (Wide i) = one_if (reads_of (Wide i) i.d)
read_destinations (Field i) = one_if (reads_of (Field i) i.d)
read_destinations (Unary i) = one_if (reads_of (Unary i) i.d)
read_destinations (Mul i) = one_if (reads_of (Mul i) i.d)
read_destinations (MulAcc i) = one_if (reads_of (MulAcc i) i.d)
read_destinations (LongMul i) = one_if (reads_of (LongMul i) i.lo) + one_if (reads_of (LongMul i) i.hi)
read_destinations (Div i) = one_if (reads_of (Div i) i.d)
read_destinations (Access i) = one_if (reads_of (Access i) i.t)
read_destinations i = 0

-- BLX of lr, which is written before the jump.
abbrev pub calls_link : Instr → Bool
calls_link (CallReg i) = i.m == 14
calls_link i = false

abbrev pub registers_of : Class → Instr → ℕ
registers_of Twice i = 0
registers_of Through i = read_destinations i
registers_of ThroughFlags i = 1
registers_of WriteBack i = 1
registers_of BaseCopy i = 1
registers_of LongSum i = 3
registers_of Push i = 1
registers_of Pop i = 1
registers_of PopReturn i = 1
registers_of SpStep i = 1
registers_of MultiBack i = 1
registers_of DirectCall i = 0
registers_of RegisterCall i = one_if (calls_link i)
registers_of RegisterJump i = 0
registers_of ZeroBranch i = 0

-- Only a long sum changes flags that the instruction leaves.
abbrev pub changes_flags : Class → Bool
changes_flags LongSum = true
changes_flags c = false

abbrev pub need_of : Class → Instr → Need
need_of c i = record { registers = registers_of c i; flags = changes_flags c }

-- What goes through scratch registers reads one destination or two.
abbrev pub ThroughNeeds : Type 0
ThroughNeeds = (i : Instr) → IsOf Through i → (1 ≤ registers_of Through i) × (registers_of Through i ≤ 2)

abbrev pub NeedsFit : Type 0
NeedsFit = (c : Class) (i : Instr) → registers_of c i ≤ 3
