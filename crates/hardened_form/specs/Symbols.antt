-- The symbols of a hardened object: local ones that stay, mapping symbols, a function for each target that gets one, and
-- what other objects see.
use Rattle.std.specs.Prelude.{ℕ, ◌+◌, ◌-◌, ◌%◌, ◌==◌, ◌&&◌, ◌||◌, not, Bool, true, List, ◌++◌, Option, Some, None, if◌then◌else◌, map, filter, slice_get, is_some, unwrap_or, codes, decimal}
use Rattle.elf_model.specs.declared.objects.Section.{Section}
use Rattle.elf_model.specs.declared.objects.Symbol.{Symbol}
use Rattle.elf_model.specs.declared.objects.Home.{Home}
use Rattle.elf_model.specs.declared.objects.Home.TheVariants as homes
use Rattle.elf_model.specs.Constants.{local, func}
use Rattle.elf_model.specs.Objects.{ObjectParts, even}
use Rattle.elf_model.specs.Ranges.{is_mapping}
use Rattle.reloc_places.specs.Relocations.{is_in_code}
use Rattle.hardened_form.specs.Items.{Item}
use Rattle.hardened_form.specs.Standing.{new_place, first_from}
use Rattle.hardened_form.specs.Rows.{ordinal}
use Rattle.hardened_form.specs.Turns.{Target}
use Rattle.hardened_form.specs.MappingSymbols.{Mapping, mapping_symbol}

-- The lists that the tables follow: units and words by their old places, the places of mapping symbols, and the targets
-- that get a symbol of their own.
pub record Lists : Type 0 where
  pub items : List Item
  pub mappings : List Mapping
  pub targets : List Target

-- the type of a symbol that stands for its section
abbrev pub section_kind : ℕ
section_kind = 3

abbrev pub size_of : Option Section → ℕ
size_of None = 0
size_of (Some t) = t.size

-- A symbol of code goes with its point and keeps bit 0. A function reaches to the first unit or word from its old end on,
-- or to the end of the section, which has this size now.
abbrev pub moved_size : List Item → ℕ → Symbol → ℕ → ℕ → ℕ
moved_size items j s at size = if s.kind == func then first_from items j (even s.value + s.size) size - at else s.size

abbrev pub moved_to : List Item → ℕ → Symbol → Option ℕ → ℕ → Symbol
moved_to items j s None size = s
moved_to items j s (Some at) size = record s { value = at + s.value % 2; size = moved_size items j s at size }

abbrev pub moved_in : ObjectParts → ObjectParts → List Item → Symbol → Home → Symbol
moved_in o h items s (homes.Section j) =
    if is_in_code o s.home then moved_to items j s (new_place items j (even s.value)) (size_of (slice_get h.sections j)) else s
moved_in o h items s _ = s

abbrev pub moved : ObjectParts → ObjectParts → List Item → Symbol → Symbol
moved o h items s = moved_in o h items s s.home

-- A local symbol of code stays that is at a point, or stands for its section; mapping symbols don't.
abbrev pub stays_in : ObjectParts → List Item → Symbol → Home → Bool
stays_in o items s (homes.Section j) =
    not (is_in_code o s.home) || (not (is_mapping s) && (is_some (new_place items j (even s.value)) || ((s.kind == section_kind) && (s.value == 0))))
stays_in o items s _ = true

abbrev pub stays : ObjectParts → List Item → Symbol → Bool
stays o items s = (s.bind == local) && stays_in o items s s.home

-- what other objects see
abbrev pub is_shared : Symbol → Bool
is_shared s = not (s.bind == local)

-- a target's function, by the section's number among those of code and the old offset, both decimal, with bit 0 set
abbrev pub target_symbol : ObjectParts → List Item → Target → Symbol
target_symbol o items t = record {
  name = codes "skip." ++ decimal (ordinal o t.section) ++ codes "." ++ decimal t.old;
  value = unwrap_or (new_place items t.section t.old) 0 + 1;
  size = 0;
  bind = local;
  kind = func;
  other = 0;
  home = homes.Section t.section;
}

-- all of them, in order
abbrev pub new_symbols : ObjectParts → ObjectParts → Lists → List Symbol
new_symbols o h l =
    map (moved o h l.items) (filter (stays o l.items) o.symbols) ++ map mapping_symbol l.mappings ++ map (target_symbol o l.items) l.targets
    ++ map (moved o h l.items) (filter is_shared o.symbols)
