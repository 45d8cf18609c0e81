-- Laws on one image: its parts, its relocations, and the bytes that no relocation has.
use Rattle.std.specs.Prelude.{◌≡◌, ◌<◌, ◌≤◌, ℕ, ◌+◌, ◌-◌, ◌%◌, ◌||◌, true, false, List, length, get_or, nat_lt, Some, slice_get}
use Rattle.std.specs.List.{list_all, AllPass}
use Rattle.elf_model.specs.declared.objects.Section.{Section}
use Rattle.elf_model.specs.declared.objects.Reloc.{Reloc}
use Rattle.elf_model.specs.declared.refusals.Spot.{Spot}
use Rattle.elf_model.specs.Fields.{byte_at}
use Rattle.elf_model.specs.Objects.{ObjectParts, is_object, is_code, is_data}
use Rattle.mark_word.specs.Words.{bare}
use Rattle.thumb_table.specs.declared.placements.Placement.{Placement}
use Rattle.thumb_table.specs.Parts.{Image}
use Rattle.thumb_table.specs.Layouts.{Placed, IsPlacement, all_placed, part_of, part_bytes}
use Rattle.thumb_table.specs.Links.{Link, IsLink, covers, is_in_range}
use Rattle.thumb_table.specs.LinkFaults.{IsReloc, LinkFault}
use Rattle.thumb_table.specs.Images.{CanLink, IsImage}

-- each of them is an object
abbrev pub AreObjects : List ObjectParts → Type 0
AreObjects objects = list_all is_object objects ≡ true

-- Section j of object i is in memory.
pub record Here (objects : List ObjectParts) (at : Placement) (i : ℕ) (o : ObjectParts) (j : ℕ) (p : Placed) : Type 0 where
  pub object : slice_get objects i ≡ Some o
  pub section : slice_get o.sections j ≡ Some p.section
  pub part : part_of (all_placed objects at) i j ≡ Some p

-- Objects that have an image have no fault.
abbrev pub NotBoth : Type 0
NotBoth = (objects : List ObjectParts) (at : Placement) (image : Image) (spot : Spot) → IsImage objects at image → LinkFault objects at spot → ⊥

-- There is one image at most.
abbrev pub OneImage : Type 0
OneImage =
    (objects : List ObjectParts) (at : Placement) (a b : Image) → AreObjects objects → IsImage objects at a → IsImage objects at b → a ≡ b

-- Each section of memory has its part.
abbrev pub HasPart : Type 0
HasPart =
    (objects : List ObjectParts) (at : Placement) (i j : ℕ) (o : ObjectParts) (s : Section) → slice_get objects i ≡ Some o → slice_get o.sections j ≡ Some s
    → (is_code s || is_data s) ≡ true → (p : Placed) × Here objects at i o j p

-- Parts lie apart: an address is in one part, at one offset.
abbrev pub PartsApart : Type 0
PartsApart =
    (objects : List ObjectParts) (at : Placement) → AreObjects objects → IsPlacement at → CanLink objects at
    → (i j k l : ℕ) (o q : ObjectParts) (p r : Placed) → Here objects at i o j p → Here objects at k q l r
    → (x y : ℕ) → x < p.section.size → y < r.section.size → p.start + x ≡ r.start + y → (i ≡ k) × (j ≡ l) × (x ≡ y)

-- Parts of code lie in the code of the image.
abbrev pub CodeInside : Type 0
CodeInside =
    (objects : List ObjectParts) (at : Placement) (image : Image) → AreObjects objects → IsImage objects at image
    → (i j : ℕ) (o : ObjectParts) (p : Placed) → Here objects at i o j p → is_code p.section ≡ true
    → (at.base ≤ p.start) × (p.start + p.section.size ≤ at.base + length image.code.bytes)

-- Code stands at multiples of 4.
abbrev pub CodeAligned : Type 0
CodeAligned =
    (objects : List ObjectParts) (at : Placement) → AreObjects objects → IsPlacement at
    → (i j : ℕ) (o : ObjectParts) (p : Placed) → Here objects at i o j p → is_code p.section ≡ true → p.start % 4 ≡ 0

-- Parts of data lie in its data.
abbrev pub DataInside : Type 0
DataInside =
    (objects : List ObjectParts) (at : Placement) (image : Image) → AreObjects objects → IsImage objects at image
    → (i j : ℕ) (o : ObjectParts) (p : Placed) → Here objects at i o j p → is_data p.section ≡ true
    → (image.memory.base ≤ p.start) × (p.start + p.section.size ≤ image.memory.base + length image.memory.cells)

-- Relocation k of object i is a link, and in range.
pub record Linked (objects : List ObjectParts) (at : Placement) (i k : ℕ) (o : ObjectParts) (r : Reloc) : Type 0 where
  pub link : Link
  pub is_link : IsLink objects at link
  pub file : link.file ≡ i
  pub number : link.number ≡ k
  pub range : is_in_range (all_placed objects at) link ≡ true

-- Each relocation of an image is.
abbrev pub EachLinked : Type 0
EachLinked =
    (objects : List ObjectParts) (at : Placement) (image : Image) → AreObjects objects → IsImage objects at image
    → (i k : ℕ) (o : ObjectParts) (r : Reloc) → IsReloc objects i k o r → Linked objects at i k o r

-- A byte of code that no relocation of its own section has is the section's.
abbrev pub CodeAsIs : Type 0
CodeAsIs =
    (objects : List ObjectParts) (at : Placement) (image : Image) → AreObjects objects → IsImage objects at image
    → (i j : ℕ) (o : ObjectParts) (p : Placed) → Here objects at i o j p → is_code p.section ≡ true
    → (x : ℕ) → x < p.section.size → ((l : Link) → IsLink objects at l → l.file ≡ i → l.reloc.section ≡ j → covers (p.start + x) l ≡ false)
    → byte_at image.code.bytes (p.start + x - at.base) ≡ byte_at p.section.bytes x

-- So is a byte of data; of linked words the image says itself.
abbrev pub DataAsIs : Type 0
DataAsIs =
    (objects : List ObjectParts) (at : Placement) (image : Image) → AreObjects objects → IsImage objects at image
    → (i j : ℕ) (o : ObjectParts) (p : Placed) → Here objects at i o j p → is_data p.section ≡ true
    → (x : ℕ) → x < p.section.size → ((l : Link) → IsLink objects at l → l.file ≡ i → l.reloc.section ≡ j → covers (p.start + x) l ≡ false)
    → get_or image.memory.cells (p.start + x - image.memory.base) (bare 0) ≡ bare (byte_at (part_bytes p.section) x)
