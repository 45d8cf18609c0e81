-- The entries that some of the symbols give.
use Rattle.std.specs.Prelude.{◌+◌, ◌&&◌, Bool, List, map, filter}
use Rattle.elf_model.specs.Objects.{ObjectParts, even}
use Rattle.thumb_table.specs.declared.parts.NamedEntry.{NamedEntry}
use Rattle.thumb_table.specs.Layouts.{Placed}
use Rattle.thumb_table.specs.Names.{Defined, is_function, is_standing, resolved, address_of}

abbrev pub is_entry : List ObjectParts → List Placed → Defined → Bool
is_entry objects parts d = is_function parts d && is_standing objects d (resolved objects d.symbol.name)

abbrev pub entry_at : List Placed → Defined → NamedEntry
entry_at parts d = record { name = d.symbol.name; address = even (address_of parts d) + 1 }

abbrev pub entries_among : List ObjectParts → List Placed → List Defined → List NamedEntry
entries_among objects parts all = map (λ d. entry_at parts d) (filter (λ d. is_entry objects parts d) all)
