-- The image of objects that are placed in memory.
use Rattle.std.specs.Prelude.{◌≡◌, ◌<◌, ◌↔◌, ℕ, ◌+◌, ◌-◌, ◌^◌, true, List, [], ◌∷◌, ◌++◌, length, map, replicate, get_or, Option, Some, None, if◌then◌else◌, Contains, slice_get}
use Rattle.std.specs.List.Sorted.{IsStrictlyIncreasing}
use Rattle.elf_model.specs.declared.objects.Reloc.{Reloc}
use Rattle.elf_model.specs.declared.refusals.Spot.{Spot}
use Rattle.elf_model.specs.declared.ranges.RangeKind.TheVariants.{Data}
use Rattle.elf_model.specs.Fields.{byte_at, same_name}
use Rattle.elf_model.specs.Objects.{ObjectParts, is_code}
pub use Rattle.elf_model.specs.Objects.{is_data, even}
use Rattle.elf_model.specs.Ranges.{IsBeginning}
use Rattle.mark_word.specs.declared.marks.Mark.TheVariants.{Plain}
use Rattle.mark_word.specs.Words.{bare}
use Rattle.thumb_table.specs.declared.placements.Placement.{Placement}
use Rattle.thumb_table.specs.declared.parts.PlaceMark.{PlaceMark}
use Rattle.thumb_table.specs.declared.parts.NamedEntry.{NamedEntry}
use Rattle.thumb_table.specs.Parts.{Image, Memory}
use Rattle.reloc_places.specs.Relocations.{IsRight}
use Rattle.thumb_table.specs.Layouts.{Placed, IsPlacement, all_placed, as_part, code_bytes_of, data_bytes_of}
use Rattle.thumb_table.specs.Names.{Defined, all_symbols, is_function, address_of, entries_of}
use Rattle.thumb_table.specs.Links.{Link, IsLink, IsWritten, AreWritten, IsFree, place_of, mark_of}
use Rattle.thumb_table.specs.LinkFaults.{IsReloc, LinkFault}

-- data begins at an offset of a section
abbrev pub IsDataStart : ObjectParts → ℕ → ℕ → Type 0
IsDataStart o j x = IsBeginning o Data j x

-- A stop is a function's address, the start of data in code, or the end of a code section.
pub data IsStop (objects : List ObjectParts) (parts : List Placed) : ℕ → Type 0 where
  at_function : (d : Defined) → Contains (all_symbols 0 objects) d → is_function parts d ≡ true → IsStop objects parts (even (address_of parts d))
  at_data : (p : Placed) (o : ObjectParts) (x : ℕ) → Contains parts p → is_code p.section ≡ true → slice_get objects p.object ≡ Some o → IsDataStart o p.index x → IsStop objects parts (p.start + x)
  at_end : (p : Placed) → Contains parts p → is_code p.section ≡ true → IsStop objects parts (p.start + p.section.size)

-- Nothing stands in the way of an image: each relocation is right, and there is no fault.
pub record CanLink (objects : List ObjectParts) (at : Placement) : Type 0 where
  pub right : (i k : ℕ) (o : ObjectParts) (r : Reloc) → IsReloc objects i k o r → IsRight o k r
  pub sound : (spot : Spot) → ¬ LinkFault objects at spot

-- The code is the sections' bytes in their places but for the places of relocations.
pub record IsLinkedCode (objects : List ObjectParts) (at : Placement) (bytes : List ℕ) : Type 0 where
  pub size : length bytes ≡ length (code_bytes_of objects at)
  pub small : (x : ℕ) → byte_at bytes x < 2 ^ 8
  pub others : (x : ℕ) → IsFree objects at (at.base + x) → byte_at bytes x ≡ byte_at (code_bytes_of objects at) x
  pub linked : (l : Link) → IsLink objects at l → is_code l.part.section ≡ true → IsWritten (all_placed objects at) bytes at.base l

-- So is the data. Its cells have no pieces but at relocations.
pub record IsLinkedData (objects : List ObjectParts) (at : Placement) (memory : Memory) : Type 0 where
  pub base : memory.base ≡ at.base + at.room
  pub size : length memory.cells ≡ length (data_bytes_of objects at)
  pub others : (x : ℕ) → IsFree objects at (memory.base + x) → get_or memory.cells x (bare 0) ≡ bare (byte_at (data_bytes_of objects at) x)
  pub linked : (l : Link) → IsLink objects at l → is_data l.part.section ≡ true → AreWritten (all_placed objects at) memory.cells memory.base l

-- the mark of a relocation in code
pub record IsMark (objects : List ObjectParts) (at : Placement) (m : PlaceMark) : Type 0 where
  pub link : Link
  pub is_link : IsLink objects at link
  pub code : is_code link.part.section ≡ true
  pub place : m.at ≡ place_of link
  pub mark : m.mark ≡ mark_of (all_placed objects at) link
  pub marked : m.mark ≡ Plain → ⊥

pub record IsMarked (objects : List ObjectParts) (at : Placement) (marks : List PlaceMark) : Type 0 where
  pub exact : (m : PlaceMark) → Contains marks m ↔ IsMark objects at m
  pub rise : IsStrictlyIncreasing (map (λ (m : PlaceMark). m.at) marks)

-- the image of objects at a placement
pub record IsImage (objects : List ObjectParts) (at : Placement) (image : Image) : Type 0 where
  pub placement : IsPlacement at
  pub can : CanLink objects at
  pub parts : image.parts ≡ map as_part (all_placed objects at)
  pub code_base : image.code.base ≡ at.base
  pub code : IsLinkedCode objects at image.code.bytes
  pub marks : IsMarked objects at image.code.marks
  pub stops : (a : ℕ) → Contains image.code.stops a ↔ IsStop objects (all_placed objects at) a
  pub stops_rise : IsStrictlyIncreasing image.code.stops
  pub memory : IsLinkedData objects at image.memory
  pub room : image.room ≡ at.room
  pub entries : image.entries ≡ entries_of objects (all_placed objects at)

-- the address that a name's call starts at, with bit 0 set
abbrev pub entry_of : List NamedEntry → List ℕ → Option ℕ
entry_of [] name = None
entry_of (e ∷ rest) name = if same_name e.name name then Some e.address else entry_of rest name

-- the bytes of an image: code, zeros up to its room, and data
abbrev pub image_bytes : Image → List ℕ
image_bytes image =
    image.code.bytes ++ replicate (image.room - length image.code.bytes) 0 ++ map (λ c. c.byte) image.memory.cells
