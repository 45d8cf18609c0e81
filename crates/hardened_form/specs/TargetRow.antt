-- A literal load of a function's address by the section's symbol, a branch out, two words of data: what its hardened form
-- says where a relocation turns.
use Rattle.std.specs.Prelude.{◌≡◌, ℕ, ◌==◌, Bool, true, false, List, [], ◌∷◌, Option, Some, None, if◌then◌else◌, codes, negsuc, Contains}
use Rattle.std.specs.List.{list_all}
use Rattle.elf_model.specs.declared.objects.Symbol.{Symbol}
use Rattle.elf_model.specs.declared.objects.Reloc.{Reloc}
use Rattle.elf_model.specs.declared.objects.RelocKind.TheVariants.{Abs32, ThmJump24}
use Rattle.elf_model.specs.declared.objects.MapRow.{MapRow}
use Rattle.elf_model.specs.declared.objects.Home.TheVariants as homes
use Rattle.elf_model.specs.Fields.{byte_at}
use Rattle.elf_model.specs.Objects.{ObjectParts, is_object}
use Rattle.elf_model.specs.Maps.{map_section}
use Rattle.thumb_instr.specs.declared.conditions.Cond.TheVariants.{Al}
use Rattle.thumb_instr.specs.declared.instructions.Instr.{Instr}
use Rattle.thumb_instr.specs.declared.instructions.Instr.TheVariants as instr
use Rattle.reloc_places.specs.Starts.{bytes_of}
use Rattle.flow_recover.specs.declared.flows.Point.{Point}
use Rattle.flow_recover.specs.declared.flows.Exit.{Exit}
use Rattle.flow_recover.specs.declared.flows.Exit.TheVariants as exits
use Rattle.flow_recover.specs.declared.flows.PoolWord.{PoolWord}
use Rattle.flow_recover.specs.Flows.{FlowParts}
use Rattle.hardened_form.specs.Places.{UnitPlace, Places}
use Rattle.hardened_form.specs.Items.{AreItems}
use Rattle.hardened_form.specs.Standing.{old_points, old_words}
use Rattle.hardened_form.specs.Turns.{Target, IsTurnedTo}
use Rattle.hardened_form.specs.Sections.{is_cleared}
use Rattle.hardened_form.specs.MappingSymbols.{Mapping, IsMapping}
use Rattle.hardened_form.specs.Symbols.{Lists, new_symbols}
use Rattle.hardened_form.specs.Carriers.{Carrier}
use Rattle.hardened_form.specs.Relocs.{IsNewReloc}
use Rattle.hardened_form.specs.Code.{AreTiled, AreWords}
use Rattle.hardened_form.specs.FirstRow.{text_of, code_symbol, function_symbol, start_row, movs, bx_lr}

abbrev pub symbol : List ℕ → ℕ → ℕ → ℕ → ℕ → Symbol
symbol name value size bind kind = record { name = name; value = value; size = size; bind = bind; kind = kind; other = 0; home = homes.Section 0 }

abbrev pub outer : Symbol
outer = record { name = codes "g"; value = 0; size = 0; bind = 1; kind = 0; other = 0; home = homes.Undefined }

abbrev pub address_at : ℕ → ℕ → ℕ → Reloc
address_at j x n = record { section = j; offset = x; kind = Abs32; symbol = n }

abbrev pub branch_at : ℕ → ℕ → Reloc
branch_at x n = record { section = 0; offset = x; kind = ThmJump24; symbol = n }

abbrev pub old_bytes : List ℕ
old_bytes = 0x01 ∷ 0x48 ∷ 0xFF ∷ 0xF7 ∷ 0xFE ∷ 0xBF ∷ 0x00 ∷ 0xBF ∷ 0x0D ∷ 0x00 ∷ 0x00 ∷ 0x00 ∷ 0x01 ∷ 0x20 ∷ 0x70 ∷ 0x47 ∷ []

-- The word of code and the first word of data name the function at 12 by the section's symbol, the second word f itself.
abbrev pub plain : ObjectParts
plain = record {
  sections =
      text_of 16 old_bytes
      ∷ record { name = codes ".data"; kind = 1; flags = 3; align = 4; entry = 0; size = 8; bytes = 0x0D ∷ 0x00 ∷ 0x00 ∷ 0x00 ∷ 0x00 ∷ 0x00 ∷ 0x00 ∷ 0x00 ∷ [] }
      ∷ [];
  symbols = code_symbol ∷ symbol (codes "$d") 8 0 0 0 ∷ symbol (codes "$t") 12 0 0 0 ∷ symbol [] 0 0 0 3 ∷ symbol (codes "h") 13 4 0 2 ∷ function_symbol 12 ∷ outer ∷ [];
  relocs = branch_at 2 6 ∷ address_at 0 8 3 ∷ address_at 1 0 3 ∷ address_at 1 4 5 ∷ [];
  flags = 0x05000000;
}

abbrev pub rows : List MapRow
rows = start_row 0 0 ∷ start_row 2 4 ∷ start_row 12 16 ∷ start_row 14 20 ∷ []

abbrev pub new_bytes : List ℕ
new_bytes =
    0x02 ∷ 0x48 ∷ 0x02 ∷ 0x48 ∷ 0xFF ∷ 0xF7 ∷ 0xFE ∷ 0xBF ∷ 0xFF ∷ 0xF7 ∷ 0xFE ∷ 0xBF ∷ 0x00 ∷ 0x00 ∷ 0x00 ∷ 0x00 ∷ 0x01 ∷ 0x20 ∷ 0x01 ∷ 0x20 ∷ 0x70 ∷ 0x47 ∷ 0x70 ∷ 0x47 ∷ []

abbrev pub hard : ObjectParts
hard = record {
  sections =
      text_of 24 new_bytes
      ∷ record { name = codes ".data"; kind = 1; flags = 3; align = 4; entry = 0; size = 8; bytes = 0x00 ∷ 0x00 ∷ 0x00 ∷ 0x00 ∷ 0x00 ∷ 0x00 ∷ 0x00 ∷ 0x00 ∷ [] }
      ∷ map_section rows
      ∷ [];
  symbols =
      symbol [] 0 0 0 3 ∷ symbol (codes "h") 17 8 0 2 ∷ code_symbol ∷ symbol (codes "$d") 12 0 0 0 ∷ symbol (codes "$t") 16 0 0 0 ∷ symbol (codes "skip.0.12") 17 0 0 2
      ∷ function_symbol 16 ∷ outer ∷ [];
  relocs = branch_at 4 7 ∷ branch_at 8 7 ∷ address_at 0 12 5 ∷ address_at 1 0 5 ∷ address_at 1 4 6 ∷ [];
  flags = 0x05000000;
}

abbrev pub branch : Instr
branch = instr.Branch (record { cond = Al; offset = negsuc 3 })

abbrev pub load : Instr
load = instr.Literal (record { t = 0; up = true; imm = 4 })

abbrev pub point : ℕ → Bool → Instr → Exit → Option ℕ → Option ℕ → Option ℕ → Point
point x wide i exit next reloc loads = record { section = 0; offset = x; wide = wide; instr = i; cond = Al; exit = exit; next = next; reloc = reloc; word = loads }

abbrev pub pool_word : PoolWord
pool_word = record { section = 0; offset = 8; reloc = Some 1 }

abbrev pub flow : FlowParts
flow = record {
  points = point 0 false load exits.Falls (Some 1) None (Some 0) ∷ point 2 true branch exits.Transfer None (Some 0) None ∷ point 12 false movs exits.Falls (Some 3) None None
      ∷ point 14 false bx_lr exits.Return None None None ∷ [];
  words = pool_word ∷ [];
  entries = 0 ∷ 2 ∷ [];
  ranges = [];
}

abbrev pub from : ℕ → ℕ → UnitPlace
from x y = record { start = x; end = y; back = y; island = None }

abbrev pub places : Places
places = record { units = from 0 4 ∷ from 4 12 ∷ from 16 20 ∷ from 20 24 ∷ []; words = 12 ∷ [] }

abbrev pub carriers : List (List Carrier)
carriers = [] ∷ (record { at = 4; instr = branch } ∷ record { at = 8; instr = branch } ∷ []) ∷ [] ∷ [] ∷ []

abbrev pub target : Target
target = record { section = 0; old = 12 }

abbrev pub lists : Lists
lists = record {
  items = record { section = 0; old = 0; new = 0; end = 4; word = false } ∷ record { section = 0; old = 2; new = 4; end = 12; word = false }
      ∷ record { section = 0; old = 8; new = 12; end = 16; word = true } ∷ record { section = 0; old = 12; new = 16; end = 20; word = false }
      ∷ record { section = 0; old = 14; new = 20; end = 24; word = false } ∷ [];
  mappings = record { section = 0; at = 0; code = true } ∷ record { section = 0; at = 12; code = false } ∷ record { section = 0; at = 16; code = true } ∷ [];
  targets = target ∷ [];
}

abbrev pub below_8 : List ℕ
below_8 = 0 ∷ 1 ∷ 2 ∷ 3 ∷ 4 ∷ 5 ∷ 6 ∷ 7 ∷ []

-- Both are objects; units and the word stand in order; the symbols are these, each mapping symbol for its reason; the
-- target is one of a relocation that turns; the word and the data are cleared; each relocation has its reason.
pub record TargetRowReads : Type 0 where
  pub plain_object : is_object plain ≡ true
  pub hard_object : is_object hard ≡ true
  pub items : AreItems (old_points flow) (old_words flow) places lists.items
  pub tiled : AreTiled hard lists.items
  pub symbols : hard.symbols ≡ new_symbols plain hard lists
  pub mappings : (m : Mapping) → Contains lists.mappings m → IsMapping hard flow places m
  pub target : IsTurnedTo plain flow target
  pub words : AreWords plain hard flow places
  pub data_bytes : list_all (λ x. byte_at (bytes_of hard 1) x == (if is_cleared plain 1 x then 0 else byte_at (bytes_of plain 1) x)) below_8 ≡ true
  pub relocs : (q : Reloc) → Contains hard.relocs q → IsNewReloc plain flow places carriers lists q
