-- The first relocation that is not right: of an object, and of all objects.
use Rattle.std.specs.Prelude.{◌≡◌, ◌<◌, ◌⊎◌, ℕ, Bool, true, false, Option, Some, None, List, slice_get}
use Rattle.elf_model.specs.declared.objects.Reloc.{Reloc}
use Rattle.elf_model.specs.declared.ranges.RangeKind.{RangeKind}
use Rattle.elf_model.specs.declared.ranges.RangeKind.TheVariants.{Code, Arm, Data}
use Rattle.elf_model.specs.declared.refusals.Refusal.TheVariants.{RelocKind}
use Rattle.elf_model.specs.declared.refusals.Spot.{Spot}
use Rattle.elf_model.specs.Objects.{ObjectParts}
use Rattle.code_ranges.specs.Spots.{spot_in}
use Rattle.reloc_places.specs.Relocations.{IsRight}
use Rattle.thumb_table.specs.LinkFaults.{IsReloc}

abbrev pub is_data_kind : RangeKind → Bool
is_data_kind Code = false
is_data_kind Arm = false
is_data_kind Data = true

-- relocation k is the first of the object that is not right
pub record IsWrong (o : ObjectParts) (k : ℕ) : Type 0 where
  pub reloc : Reloc
  pub there : slice_get o.relocs k ≡ Some reloc
  pub wrong : ¬ IsRight o k reloc
  pub before : (h : ℕ) (q : Reloc) → h < k → slice_get o.relocs h ≡ Some q → IsRight o h q

abbrev pub IsFirstWrong : ObjectParts → Option ℕ → Type 0
IsFirstWrong o None = (k : ℕ) (r : Reloc) → slice_get o.relocs k ≡ Some r → IsRight o k r
IsFirstWrong o (Some k) = IsWrong o k

-- the spot of the first one in the order of objects and relocations
pub record IsMisplaced (objects : List ObjectParts) (spot : Spot) : Type 0 where
  pub file : ℕ
  pub number : ℕ
  pub object : ObjectParts
  pub reloc : Reloc
  pub there : IsReloc objects file number object reloc
  pub wrong : ¬ IsRight object number reloc
  pub is : spot ≡ spot_in RelocKind file reloc.section reloc.offset
  pub before : (i k : ℕ) (o : ObjectParts) (r : Reloc) → IsReloc objects i k o r → (i < file) ⊎ ((i ≡ file) × (k < number)) → IsRight o k r

abbrev pub IsFirstMisplaced : List ObjectParts → Option Spot → Type 0
IsFirstMisplaced objects None = (i k : ℕ) (o : ObjectParts) (r : Reloc) → IsReloc objects i k o r → IsRight o k r
IsFirstMisplaced objects (Some spot) = IsMisplaced objects spot
