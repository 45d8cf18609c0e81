-- MOVS r0, #5 and BX LR, and a hardened form of them: each instruction twice.
use Rattle.std.specs.Prelude.{ℕ, ◌+◌, true, false, List, [], ◌∷◌, Some, None, codes}
use Rattle.elf_model.specs.declared.objects.Section.{Section}
use Rattle.elf_model.specs.declared.objects.Symbol.{Symbol}
use Rattle.elf_model.specs.declared.objects.MapRow.{MapRow}
use Rattle.elf_model.specs.declared.objects.RowKind.TheVariants.{Start}
use Rattle.elf_model.specs.declared.objects.Home.TheVariants as homes
use Rattle.elf_model.specs.Objects.{ObjectParts}
use Rattle.elf_model.specs.Maps.{map_section}
use Rattle.thumb_instr.specs.declared.conditions.Cond.TheVariants.{Al}
use Rattle.thumb_instr.specs.declared.operations.MoveOp.TheVariants.{Mov}
use Rattle.thumb_instr.specs.declared.operands.Operand.TheVariants.{Imm}
use Rattle.thumb_instr.specs.declared.instructions.Instr.{Instr}
use Rattle.thumb_instr.specs.declared.instructions.Instr.TheVariants as instr
use Rattle.flow_recover.specs.declared.flows.Point.{Point}
use Rattle.flow_recover.specs.declared.flows.Exit.TheVariants as exits
use Rattle.flow_recover.specs.Flows.{FlowParts}
use Rattle.hardened_form.specs.Places.{UnitPlace, Places}
use Rattle.hardened_form.specs.Carriers.{Carrier}
use Rattle.hardened_form.specs.HardenedForms.{IsHardenedForm}

abbrev pub text_of : ℕ → List ℕ → Section
text_of size bytes = record { name = codes ".text"; kind = 1; flags = 6; align = 4; entry = 0; size = size; bytes = bytes }

abbrev pub code_symbol : Symbol
code_symbol = record { name = codes "$t"; value = 0; size = 0; bind = 0; kind = 0; other = 0; home = homes.Section 0 }

abbrev pub function_symbol : ℕ → Symbol
function_symbol size = record { name = codes "f"; value = 1; size = size; bind = 1; kind = 2; other = 0; home = homes.Section 0 }

abbrev pub plain : ObjectParts
plain = record {
  sections = text_of 4 (0x05 ∷ 0x20 ∷ 0x70 ∷ 0x47 ∷ []) ∷ [];
  symbols = code_symbol ∷ function_symbol 4 ∷ [];
  relocs = [];
  flags = 0x05000000;
}

abbrev pub start_row : ℕ → ℕ → MapRow
start_row old new = record { section = 0; old = old; new = new; kind = Start }

abbrev pub rows : List MapRow
rows = start_row 0 0 ∷ start_row 2 4 ∷ []

abbrev pub hard : ObjectParts
hard = record {
  sections = text_of 8 (0x05 ∷ 0x20 ∷ 0x05 ∷ 0x20 ∷ 0x70 ∷ 0x47 ∷ 0x70 ∷ 0x47 ∷ []) ∷ map_section rows ∷ [];
  symbols = code_symbol ∷ function_symbol 8 ∷ [];
  relocs = [];
  flags = 0x05000000;
}

abbrev pub movs : Instr
movs = instr.Move (record { op = Mov; s = true; d = 0; x = Imm 5 })

abbrev pub bx_lr : Instr
bx_lr = instr.Jump (record { m = 14 })

abbrev pub first : Point
first = record { section = 0; offset = 0; wide = false; instr = movs; cond = Al; exit = exits.Falls; next = Some 1; reloc = None; word = None }

abbrev pub last : Point
last = record { section = 0; offset = 2; wide = false; instr = bx_lr; cond = Al; exit = exits.Return; next = None; reloc = None; word = None }

abbrev pub flow : FlowParts
flow = record {
  points = first ∷ last ∷ [];
  words = [];
  entries = 0 ∷ [];
  ranges = record { section = 0; start = 0; end = 4; code = true } ∷ [];
}

abbrev pub twice : ℕ → UnitPlace
twice x = record { start = x; end = x + 4; back = x + 4; island = None }

abbrev pub places : Places
places = record { units = twice 0 ∷ twice 4 ∷ []; words = [] }

abbrev pub carriers : List (List Carrier)
carriers = [] ∷ [] ∷ []

abbrev pub FirstRowHasItsForm : Type 0
FirstRowHasItsForm = IsHardenedForm plain hard flow places carriers
