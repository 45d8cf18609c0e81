-- The ranges of all kinds.
use Rattle.std.specs.Prelude.{◌≡◌, ◌↔◌, true, List, map, Contains}
use Rattle.elf_model.specs.Objects.{ObjectParts}
use Rattle.elf_model.specs.Ranges.{IsRange}
use Rattle.code_ranges.specs.declared.spans.Span.{Span}
use Rattle.code_ranges.specs.CodeRanges.{rise}
use Rattle.code_ranges.specs.Spans.{range_of}

-- all ranges of an object, Arm code too, in order
pub record AreAllRanges (o : ObjectParts) (spans : List Span) : Type 0 where
  pub exact : (s : Span) → Contains spans s ↔ IsRange o s.kind s.section s.start s.end
  pub order : rise (map range_of spans) ≡ true
