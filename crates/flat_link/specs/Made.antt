-- What the linker makes of objects, part by part.
use Rattle.std.specs.Prelude.{◌≡◌, ◌<◌, ◌↔◌, ℕ, ◌+◌, ◌^◌, List, map, Contains}
use Rattle.std.specs.List.Sorted.{IsStrictlyIncreasing}
use Rattle.elf_model.specs.Fields.{byte_at}
use Rattle.elf_model.specs.Objects.{ObjectParts, is_code, is_data}
use Rattle.mark_word.specs.Words.{bare}
use Rattle.thumb_table.specs.declared.placements.Placement.{Placement}
use Rattle.thumb_table.specs.Parts.{CodeBytes, Memory, Image}
use Rattle.thumb_table.specs.Layouts.{as_part, all_placed, code_bytes_of, data_bytes_of}
use Rattle.thumb_table.specs.Links.{IsWritten, AreWritten}
use Rattle.thumb_table.specs.Names.{entries_of}
use Rattle.thumb_table.specs.Images.{IsStop}
use Rattle.flat_link.specs.Marks.{marks_among}
use Rattle.flat_link.specs.Patches.{AreLaid}
use Rattle.flat_link.specs.Sites.{all_links}

pub record IsMadeCode (objects : List ObjectParts) (at : Placement) (code : CodeBytes) : Type 0 where
  pub base : code.base ≡ at.base
  pub small : (x : ℕ) → byte_at code.bytes x < 2 ^ 8
  pub bytes : AreLaid (λ k. is_code k.part.section) (λ all k. IsWritten (all_placed objects at) all at.base k) at.base (all_links objects at) 0 (code_bytes_of objects at) code.bytes
  pub marks : code.marks ≡ marks_among (all_placed objects at) (all_links objects at)
  pub stops : (a : ℕ) → Contains code.stops a ↔ IsStop objects (all_placed objects at) a
  pub rise : IsStrictlyIncreasing code.stops

pub record IsMadeMemory (objects : List ObjectParts) (at : Placement) (memory : Memory) : Type 0 where
  pub base : memory.base ≡ at.base + at.room
  pub cells : AreLaid (λ k. is_data k.part.section) (λ all k. AreWritten (all_placed objects at) all (at.base + at.room) k) (at.base + at.room) (all_links objects at) (bare 0)
      (map bare (data_bytes_of objects at)) memory.cells

pub record IsMade (objects : List ObjectParts) (at : Placement) (image : Image) : Type 0 where
  pub parts : image.parts ≡ map as_part (all_placed objects at)
  pub code : IsMadeCode objects at image.code
  pub memory : IsMadeMemory objects at image.memory
  pub room : image.room ≡ at.room
  pub entries : image.entries ≡ entries_of objects (all_placed objects at)
