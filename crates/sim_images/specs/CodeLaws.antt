-- Laws on the code of one image: the instructions and words that stand in it, and their marks.
use Rattle.std.specs.Prelude.{◌≡◌, ℕ, ◌+◌, ◌-◌, List, [], ◌∷◌, Option, Some, None, Ok}
use Rattle.elf_model.specs.Fields.{bytes_at, word}
use Rattle.elf_model.specs.Objects.{ObjectParts}
use Rattle.elf_model.specs.Ranges.{length_at}
use Rattle.mark_word.specs.declared.marks.Mark.{Mark}
use Rattle.mark_word.specs.declared.marks.Mark.TheVariants.{Plain}
use Rattle.thumb_instr.specs.declared.instructions.Instr.{Instr}
use Rattle.thumb_instr.specs.Blocks.{place_in_block}
use Rattle.thumb_instr.specs.Rows.{decode}
use Rattle.thumb_table.specs.declared.placements.Placement.{Placement}
use Rattle.thumb_table.specs.Parts.{Image, CodeBytes}
use Rattle.reloc_places.specs.Starts.{bytes_of, IsCodeStart, IsDataWord, instr_at, behind}
use Rattle.reloc_places.specs.Relocations.{reloc_at}
use Rattle.thumb_table.specs.Layouts.{Placed, all_placed}
use Rattle.thumb_table.specs.Links.{Link, IsLink, place_of, value_of, full, mark_of}
use Rattle.thumb_instr.specs.Numbers.{renumbered}
use Rattle.thumb_table.specs.Images.{IsImage}
use Rattle.thumb_table.specs.Steps.{Fetched, fetch}
use Rattle.thumb_table.specs.Effects.{mark_at}
use Rattle.sim_images.specs.ImageLaws.{AreObjects, Here}

-- What the machine fetches at an address: an instruction, its width and its mark.
pub record Fetches (code : CodeBytes) (a it : ℕ) (i : Instr) (width : ℕ) (mark : Mark) : Type 0 where
  pub fetched : Fetched
  pub there : fetch code a ≡ Some fetched
  pub wide : fetched.width ≡ width
  pub means : decode (place_in_block it) fetched.first fetched.second ≡ Ok i
  pub marked : mark_at code.marks a ≡ mark

-- At an instruction start without relocation stands the section's instruction.
abbrev pub StandsAsIs : Type 0
StandsAsIs =
    (objects : List ObjectParts) (at : Placement) (image : Image) → AreObjects objects → IsImage objects at image
    → (i j : ℕ) (o : ObjectParts) (p : Placed) → Here objects at i o j p
    → (x end it : ℕ) (instr : Instr) → IsCodeStart o j (bytes_of o j) x end → instr_at (bytes_of o j) end x it ≡ Ok instr → reloc_at o j x ≡ None
    → Fetches image.code (p.start + x) it instr (length_at (bytes_of o j) x) Plain

-- At one with a relocation it stands with the linked number, in whatever IT state it is decoded.
abbrev pub StandsLinked : Type 0
StandsLinked =
    (objects : List ObjectParts) (at : Placement) (image : Image) → AreObjects objects → IsImage objects at image
    → (l : Link) → IsLink objects at l → (end it : ℕ) (instr : Instr) → IsCodeStart l.object l.reloc.section (bytes_of l.object l.reloc.section) l.reloc.offset end
    → instr_at (bytes_of l.object l.reloc.section) end l.reloc.offset it ≡ Ok instr
    → Fetches image.code (place_of l) it (renumbered (value_of (all_placed objects at) l) instr) (length_at (bytes_of l.object l.reloc.section) l.reloc.offset) (mark_of (all_placed objects at) l)

-- A word of a data range among code that has no relocation is the section's, and has no mark.
abbrev pub WordAsIs : Type 0
WordAsIs =
    (objects : List ObjectParts) (at : Placement) (image : Image) → AreObjects objects → IsImage objects at image
    → (i j : ℕ) (o : ObjectParts) (p : Placed) → Here objects at i o j p
    → (w : ℕ) → IsDataWord o j w → reloc_at o j w ≡ None
    → (bytes_at image.code.bytes (p.start + w - at.base) 4 ≡ bytes_at (bytes_of o j) w 4) × (mark_at image.code.marks (p.start + w) ≡ Plain)

-- One that has is the full value, with its mark.
abbrev pub WordLinked : Type 0
WordLinked =
    (objects : List ObjectParts) (at : Placement) (image : Image) → AreObjects objects → IsImage objects at image
    → (l : Link) → IsLink objects at l → IsDataWord l.object l.reloc.section l.reloc.offset
    → (bytes_at image.code.bytes (place_of l - at.base) 4 ≡ word (full (all_placed objects at) l)) × (mark_at image.code.marks (place_of l) ≡ mark_of (all_placed objects at) l)

-- A sequence of instructions of a section, from one offset to another, each with the number of its relocation, if it has one.
pub data IsSequence (o : ObjectParts) (j : ℕ) : ℕ → List (Instr × Option ℕ) → ℕ → Type 0 where
  ended : (x : ℕ) → IsSequence o j x [] x
  longer : (x end z : ℕ) (i : Instr) (rest : List (Instr × Option ℕ)) → IsCodeStart o j (bytes_of o j) x end → instr_at (bytes_of o j) end x 0 ≡ Ok i
      → IsSequence o j (behind o j x) rest z → IsSequence o j x ((i, reloc_at o j x) ∷ rest) z

-- an instruction of object i as it is linked, and its mark
pub data IsLinkedInstr (objects : List ObjectParts) (at : Placement) (i : ℕ) : Instr → Option ℕ → Instr → Mark → Type 0 where
  alone : (instr : Instr) → IsLinkedInstr objects at i instr None instr Plain
  linked : (l : Link) (instr : Instr) → IsLink objects at l → l.file ≡ i
      → IsLinkedInstr objects at i instr (Some l.number) (renumbered (value_of (all_placed objects at) l) instr) (mark_of (all_placed objects at) l)

-- The code has a sequence of object i, linked, from one address to another.
pub data Has (objects : List ObjectParts) (at : Placement) (i : ℕ) (code : CodeBytes) : ℕ → List (Instr × Option ℕ) → ℕ → Type 0 where
  at_end : (a : ℕ) → Has objects at i code a [] a
  then : (a z width : ℕ) (step : Instr × Option ℕ) (rest : List (Instr × Option ℕ)) (instr : Instr) (mark : Mark)
      → IsLinkedInstr objects at i step.0 step.1 instr mark → Fetches code a 0 instr width mark
      → Has objects at i code (a + width) rest z → Has objects at i code a (step ∷ rest) z

-- A section's sequence stands in the image.
abbrev pub SequenceStands : Type 0
SequenceStands =
    (objects : List ObjectParts) (at : Placement) (image : Image) → AreObjects objects → IsImage objects at image
    → (i j : ℕ) (o : ObjectParts) (p : Placed) → Here objects at i o j p
    → (x z : ℕ) (steps : List (Instr × Option ℕ)) → IsSequence o j x steps z → Has objects at i image.code (p.start + x) steps (p.start + z)
