-- Sections in their places, as the code has them.
use Rattle.std.specs.Prelude.{Bool}
use Rattle.elf_model.specs.Objects.{is_section}
use Rattle.thumb_table.specs.declared.parts.Part.{Part}
use Rattle.thumb_table.specs.Layouts.{Placed, as_part}
use Rattle.flat_link.specs.declared.lots.Lot.{Lot}

abbrev pub placed_of : Lot → Placed
placed_of l = record { object = l.object; index = l.index; ordinal = l.ordinal; start = l.start; section = l.section.now }

abbrev pub part_with : Lot → Part
part_with l = as_part (placed_of l)

abbrev pub is_sound : Lot → Bool
is_sound l = is_section l.section.now
