-- What instructions make of registers, by the outcome of their change.
use Rattle.std.proofs.Common.{◌≡◌, ℕ, Option, Some, None, Result, Ok, Err, OnOk, IfErr, refl}
use Rattle.thumb_instr.specs.declared.instructions.Instr.{Instr}
use Rattle.thumb_instr.specs.declared.operands.Operand.{Operand}
use Rattle.thumb_instr.specs.declared.operands.Operand.TheVariants.{Imm, Reg}
use Rattle.thumb_instr.specs.declared.operations.MoveOp.{MoveOp}
use Rattle.thumb_instr.specs.declared.operations.MoveOp.TheVariants.{Mov, Mvn}
use Rattle.thumb_instr.specs.declared.operations.FieldOp.{FieldOp}
use Rattle.thumb_instr.specs.declared.operations.FieldOp.TheVariants.{Sbfx, Ubfx, Bfi, Bfc}
use Rattle.thumb_table.specs.declared.cores.Core.{Core as Registers}
use Rattle.thumb_table.specs.declared.faults.FaultKind.{FaultKind}
use Rattle.thumb_table.specs.Parts.{Memory}
use Rattle.thumb_table.specs.States.{Site, Outcome}
use Rattle.thumb_table.specs.Effects.{change, operand, moved_word, field_value}
use Rattle.thumb_table.specs.CoreStates.{core_of, alone}
use Rattle.thumb_table.specs.Views.{SettlesTo, ChangesTo, Halts}

-- operands don't read memory
pub operand_alone : (x : Operand) (s : Registers) (m : Memory) → operand x (core_of s m) ≡ operand x (alone s)
operand_alone (Imm i) s m = refl
operand_alone (Reg r kind amount) s m = refl

pub moved_alone : (op : MoveOp) (x : Operand) (s : Registers) (m : Memory) → moved_word op x (core_of s m) ≡ moved_word op x (alone s)
moved_alone Mov (Imm i) s m = refl
moved_alone Mov (Reg r kind amount) s m = refl
moved_alone Mvn (Imm i) s m = refl
moved_alone Mvn (Reg r kind amount) s m = refl

-- nor do sources of fields
pub field_alone : (op : FieldOp) (d : ℕ) (n : Option ℕ) (lsb width : ℕ) (s : Registers) (m : Memory) → field_value op d n lsb width (core_of s m) ≡ field_value op d n lsb width (alone s)
field_alone Sbfx d None lsb width s m = refl
field_alone Sbfx d (Some n) lsb width s m = refl
field_alone Ubfx d None lsb width s m = refl
field_alone Ubfx d (Some n) lsb width s m = refl
field_alone Bfi d None lsb width s m = refl
field_alone Bfi d (Some n) lsb width s m = refl
field_alone Bfc d n lsb width s m = refl

-- An instruction whose change is an outcome makes what the outcome leads to.
pub makes_of : (i : Instr) (outcome : Outcome) (next : ℕ) (s t : Registers) (r : Result (Unit {0}) FaultKind)
    → ((site : Site) (m : Memory) → change i site (core_of s m) ≡ outcome)
    → OnOk r (SettlesTo outcome next s t) → OnOk r (ChangesTo i next s t)
makes_of i outcome next s t (Ok u) same h = λ site m. rw (same site m) (h m)
makes_of i outcome next s t (Err kind) same h = tt

pub stops_of : (i : Instr) (outcome : Outcome) (next : ℕ) (s t : Registers) (r : Result (Unit {0}) FaultKind)
    → ((site : Site) (m : Memory) → change i site (core_of s m) ≡ outcome)
    → IfErr r (λ kind. (outcome ≡ Err kind) × (t ≡ s)) → IfErr r (λ kind. Halts i next s kind × (t ≡ s))
stops_of i outcome next s t (Ok u) same h = tt
stops_of i outcome next s t (Err kind) same h = (λ site m. rw (same site m, h.0) refl, h.1)
