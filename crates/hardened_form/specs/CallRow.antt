-- A call of a function that another object defines and that does not come back, and a hardened form of it: the return
-- address twice, the branch twice, each with a relocation, and where the call would come back to two traps.
use Rattle.std.specs.Prelude.{ℕ, true, List, [], ◌∷◌, Some, None, codes, negsuc}
use Rattle.elf_model.specs.declared.objects.Symbol.{Symbol}
use Rattle.elf_model.specs.declared.objects.Reloc.{Reloc}
use Rattle.elf_model.specs.declared.objects.RelocKind.TheVariants.{ThmCall, ThmJump24}
use Rattle.elf_model.specs.declared.objects.MapRow.{MapRow}
use Rattle.elf_model.specs.declared.objects.RowKind.TheVariants.{Return}
use Rattle.elf_model.specs.declared.objects.Home.TheVariants as homes
use Rattle.elf_model.specs.Objects.{ObjectParts}
use Rattle.elf_model.specs.Maps.{map_section}
use Rattle.thumb_instr.specs.declared.conditions.Cond.TheVariants.{Al}
use Rattle.thumb_instr.specs.declared.instructions.Instr.{Instr}
use Rattle.thumb_instr.specs.declared.instructions.Instr.TheVariants as instr
use Rattle.flow_recover.specs.declared.flows.Point.{Point}
use Rattle.flow_recover.specs.declared.flows.Exit.TheVariants as exits
use Rattle.flow_recover.specs.Flows.{FlowParts}
use Rattle.hardened_form.specs.Places.{UnitPlace, Places}
use Rattle.hardened_form.specs.Carriers.{Carrier}
use Rattle.hardened_form.specs.HardenedForms.{IsHardenedForm}
use Rattle.hardened_form.specs.FirstRow.{text_of, code_symbol, function_symbol, start_row}

abbrev pub abort : Symbol
abort = record { name = codes "abort"; value = 0; size = 0; bind = 1; kind = 0; other = 0; home = homes.Undefined }

-- BL
abbrev pub plain : ObjectParts
plain = record {
  sections = text_of 4 (0xFF ∷ 0xF7 ∷ 0xFE ∷ 0xFF ∷ []) ∷ [];
  symbols = code_symbol ∷ function_symbol 4 ∷ abort ∷ [];
  relocs = record { section = 0; offset = 0; kind = ThmCall; symbol = 2 } ∷ [];
  flags = 0x05000000;
}

abbrev pub rows : List MapRow
rows = start_row 0 0 ∷ record { section = 0; old = 4; new = 16; kind = Return } ∷ []

-- ADR lr, #13; ADR lr, #9; B.W and B.W; UDF and UDF
abbrev pub bytes : List ℕ
bytes =
    0x0F ∷ 0xF2 ∷ 0x0D ∷ 0x0E ∷ 0x0F ∷ 0xF2 ∷ 0x09 ∷ 0x0E ∷ 0xFF ∷ 0xF7 ∷ 0xFE ∷ 0xBF ∷ 0xFF ∷ 0xF7 ∷ 0xFE ∷ 0xBF ∷ 0x00 ∷ 0xDE ∷ 0x00 ∷ 0xDE ∷ []

abbrev pub jump_at : ℕ → Reloc
jump_at x = record { section = 0; offset = x; kind = ThmJump24; symbol = 2 }

abbrev pub hard : ObjectParts
hard = record {
  sections = text_of 20 bytes ∷ map_section rows ∷ [];
  symbols = code_symbol ∷ function_symbol 20 ∷ abort ∷ [];
  relocs = jump_at 8 ∷ jump_at 12 ∷ [];
  flags = 0x05000000;
}

abbrev pub call : Point
call = record { section = 0; offset = 0; wide = true; instr = instr.Call (record { offset = negsuc 3 }); cond = Al; exit = exits.Call; next = None; reloc = Some 0; word = None }

abbrev pub flow : FlowParts
flow = record {
  points = call ∷ [];
  words = [];
  entries = 0 ∷ [];
  ranges = record { section = 0; start = 0; end = 4; code = true } ∷ [];
}

abbrev pub unit : UnitPlace
unit = record { start = 0; end = 20; back = 16; island = None }

abbrev pub places : Places
places = record { units = unit ∷ []; words = [] }

abbrev pub jump : Instr
jump = instr.Branch (record { cond = Al; offset = negsuc 3 })

abbrev pub carriers : List (List Carrier)
carriers = (record { at = 8; instr = jump } ∷ record { at = 12; instr = jump } ∷ []) ∷ []

abbrev pub CallRowHasItsForm : Type 0
CallRowHasItsForm = IsHardenedForm plain hard flow places carriers
