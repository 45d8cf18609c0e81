-- The image of the generated object, at the placement of `make`.
use Rattle.std.specs.Prelude.{◌≡◌, ◌<◌, ◌⊎◌, ℕ, pos, ◌+◌, ◌-◌, ◌*◌, [], ◌∷◌, Some, Ok, Contains, codes}
use Rattle.elf_model.specs.declared.refusals.Spot.{Spot}
use Rattle.thumb_instr.specs.declared.instructions.Instr.{Instr}
use Rattle.thumb_instr.specs.declared.instructions.Instr.TheVariants.{Call}
use Rattle.thumb_instr.specs.declared.refusals.ItPlace.TheVariants.{Outside}
use Rattle.thumb_instr.specs.Rows.{decode}
use Rattle.thumb_table.specs.declared.placements.Placement.{Placement}
use Rattle.thumb_table.specs.Parts.{CodeBytes, Image}
use Rattle.thumb_table.specs.Steps.{Fetched, fetch}
use Rattle.thumb_table.specs.LinkFaults.{IsLinkRefusal}
use Rattle.thumb_table.specs.Images.{IsImage, entry_of}
use Rattle.gen_object.specs.Generated.{generated}
use Rattle.gen_flow.specs.GeneratedCode.{IsCount, StandsAt}

-- code from 0x8000 on in 524,288 bytes, and a stack of 65,536 behind it
abbrev pub placement : Placement
placement = record { base = 0x8000; room = 524288; stack = 65536 }

-- Linking gives a call the offset of the function behind its own; no other instruction changes.
abbrev pub linked : Instr → Instr
linked (Call c) = Call (record { offset = pos 2 })
linked i = i

abbrev pub width_of : Instr → ℕ
width_of (Call c) = 4
width_of i = 2

pub record IsFetched (code : CodeBytes) (a : ℕ) (i : Instr) : Type 0 where
  pub fetched : Fetched
  pub is : fetch code a ≡ Some fetched
  pub width : fetched.width ≡ width_of i
  pub answer : decode Outside fetched.first fetched.second ≡ Ok i

pub record IsGeneratedImage (seed count : ℕ) (image : Image) : Type 0 where
  -- at the place of each instruction stands what linking makes of it
  pub code : (x : ℕ) (i : Instr) → StandsAt seed count x i → IsFetched image.code (0x8000 + x) (linked i)
  -- stops are at functions and behind the last of them alone
  pub stops : (a : ℕ) → Contains image.code.stops a → ((k : ℕ) × k < count × (a ≡ 0x8000 + 14 * k)) ⊎ (a ≡ 0x8000 + 14 * count - 4)
  -- no data stands between code and stack
  pub base : image.memory.base ≡ 0x8000 + 524288
  pub cells : image.memory.cells ≡ []
  pub entry : entry_of image.entries (codes "f0") ≡ Some 0x8001

abbrev pub GeneratedImagesAreKnown : Type 0
GeneratedImagesAreKnown =
    (seed count : ℕ) (image : Image) → IsCount count → IsImage (generated seed count ∷ []) placement image → IsGeneratedImage seed count image

abbrev pub GeneratedObjectsAreLinked : Type 0
GeneratedObjectsAreLinked = (seed count : ℕ) (spot : Spot) → IsCount count → ¬ IsLinkRefusal (generated seed count ∷ []) placement spot
