-- ADDS r0, #1 and BX LR, where the first is done by way of r12: ADDS r12, r0, #1 twice and MOV r0, r12 twice.
use Rattle.std.specs.Prelude.{ℕ, true, false, List, [], ◌∷◌, Some, None}
use Rattle.elf_model.specs.Objects.{ObjectParts}
use Rattle.thumb_instr.specs.declared.conditions.Cond.TheVariants.{Al}
use Rattle.thumb_instr.specs.declared.operations.AluOp.TheVariants.{Add}
use Rattle.thumb_instr.specs.declared.operands.Operand.TheVariants.{Imm}
use Rattle.thumb_instr.specs.declared.instructions.Instr.{Instr}
use Rattle.thumb_instr.specs.declared.instructions.Instr.TheVariants as instr
use Rattle.flow_recover.specs.declared.flows.Point.{Point}
use Rattle.flow_recover.specs.declared.flows.Exit.TheVariants as exits
use Rattle.flow_recover.specs.Flows.{FlowParts}
use Rattle.seq_core.specs.Groups.{moving}
use Rattle.hardened_form.specs.Places.{UnitPlace, Places}
use Rattle.hardened_form.specs.FirstRow.{text_of, last}
use Rattle.sim_relation.specs.Accepted.{boundaries}
use Rattle.sim_relation.specs.Sequences.{PlacedStep, Sequence}
use Rattle.sim_relation.specs.Doing.{IsDone}

abbrev pub object : ℕ → List ℕ → ObjectParts
object size bytes = record { sections = text_of size bytes ∷ []; symbols = []; relocs = []; flags = 0x05000000 }

abbrev pub plain : ObjectParts
plain = object 4 (0x01 ∷ 0x30 ∷ 0x70 ∷ 0x47 ∷ [])

abbrev pub hard : ObjectParts
hard = object 16 (0x10 ∷ 0xF1 ∷ 0x01 ∷ 0x0C ∷ 0x10 ∷ 0xF1 ∷ 0x01 ∷ 0x0C ∷ 0x60 ∷ 0x46 ∷ 0x60 ∷ 0x46 ∷ 0x70 ∷ 0x47 ∷ 0x70 ∷ 0x47 ∷ [])

abbrev pub adds : ℕ → Instr
adds d = instr.Alu (record { op = Add; s = true; d = d; n = 0; x = Imm 1 })

abbrev pub adding : Point
adding = record { section = 0; offset = 0; wide = false; instr = adds 0; cond = Al; exit = exits.Falls; next = Some 1; reloc = None; word = None }

abbrev pub flow : FlowParts
flow = record { points = adding ∷ last ∷ []; words = []; entries = 0 ∷ []; ranges = [] }

abbrev pub step : ℕ → ℕ → Instr → PlacedStep
step x width i = record { at = x; width = width; instr = i; reloc = None }

abbrev pub through : Sequence
through = record {
  steps = step 0 4 (adds 12) ∷ step 4 4 (adds 12) ∷ step 8 2 (moving false 0 12) ∷ step 10 2 (moving false 0 12) ∷ [];
  behind = 12;
  scratch = 12 ∷ [];
}

abbrev pub unit : UnitPlace
unit = record { start = 0; end = 12; back = 12; island = None }

abbrev pub places : Places
places = record { units = unit ∷ record { start = 12; end = 16; back = 16; island = None } ∷ []; words = [] }

-- The point is done by four instructions, with r12 dead behind it.
abbrev pub AddsIsDone : Type 0
AddsIsDone = IsDone plain hard flow places (boundaries 4) 4 2 true adding unit through
