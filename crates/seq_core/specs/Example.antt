-- One sequence in bytes: `adds r0,#1` by way of r12, each step twice.
use Rattle.std.specs.Prelude.{true, [], ◌∷◌}
use Rattle.thumb_instr.specs.declared.operations.AluOp.TheVariants.{Add}
use Rattle.thumb_instr.specs.declared.operands.Operand.TheVariants.{Imm}
use Rattle.thumb_instr.specs.declared.instructions.Instr.{Instr}
use Rattle.thumb_instr.specs.declared.instructions.Instr.TheVariants as instr
use Rattle.thumb_table.specs.Parts.{CodeBytes}
use Rattle.seq_core.specs.Does.{Task, Tolerates}
use Rattle.seq_core.specs.Groups.{always, done, only}

abbrev pub adds : Instr
adds = instr.Alu (record { op = Add; s = true; d = 0; n = 0; x = Imm 1 })

-- adds.w r12,r0,#1 twice, mov r0,r12 twice
abbrev pub code : CodeBytes
code = record { base = 0x8000; bytes = 0x10 ∷ 0xF1 ∷ 0x01 ∷ 0x0C ∷ 0x10 ∷ 0xF1 ∷ 0x01 ∷ 0x0C ∷ 0x60 ∷ 0x46 ∷ 0x60 ∷ 0x46 ∷ []; marks = []; stops = [] }

abbrev pub task : Task
task = record { place = 0x8000; end = 0x800C; length = 4; taken = always; effect = done adds; loses = only 12 }

abbrev pub AddsWorks : Type 0
AddsWorks = Tolerates code 2 task
