-- The numbers in the places of relocations can be read: the bytes that they are in are there.
use Rattle.std.specs.Prelude.{◌≡◌, ◌≤◌, ℕ, ◌+◌, true, Some, length, slice_get}
use Rattle.elf_model.specs.declared.objects.Reloc.{Reloc}
use Rattle.elf_model.specs.Fields.{half_at}
use Rattle.elf_model.specs.Objects.{ObjectParts}
use Rattle.elf_model.specs.Ranges.{is_long}
use Rattle.reloc_places.specs.Starts.{bytes_of}
use Rattle.reloc_places.specs.Relocations.{is_word}

pub record IsReadable (o : ObjectParts) (r : Reloc) : Type 0 where
  pub half : r.offset + 2 ≤ length (bytes_of o r.section)
  pub full : is_long (half_at (bytes_of o r.section) r.offset) ≡ true → r.offset + 4 ≤ length (bytes_of o r.section)
  pub word : is_word r.kind ≡ true → r.offset + 4 ≤ length (bytes_of o r.section)

abbrev pub AreReadable : ObjectParts → Type 0
AreReadable o = (k : ℕ) (r : Reloc) → slice_get o.relocs k ≡ Some r → IsReadable o r
