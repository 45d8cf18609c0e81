-- The marks of relocations in code.
use Rattle.std.specs.Prelude.{◌&&◌, List, [], ◌∷◌, ◌++◌, Option, Some, None, if◌then◌else◌}
use Rattle.std.specs.Option.{option_to_list}
use Rattle.elf_model.specs.Objects.{is_code}
use Rattle.mark_word.specs.Words.{is_marked}
use Rattle.thumb_table.specs.declared.parts.PlaceMark.{PlaceMark}
use Rattle.thumb_table.specs.Layouts.{Placed}
use Rattle.thumb_table.specs.Links.{Link, place_of, mark_of}

unfoldable pub mark_at : List Placed → Link → Option PlaceMark
mark_at parts l = if is_code l.part.section && is_marked (mark_of parts l) then Some (record { at = place_of l; mark = mark_of parts l }) else None

abbrev pub marks_among : List Placed → List Link → List PlaceMark
marks_among parts [] = []
marks_among parts (l ∷ rest) = option_to_list (mark_at parts l) ++ marks_among parts rest
