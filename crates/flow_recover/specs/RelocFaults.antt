-- The spots of relocations that stand in the way of a flow.
use Rattle.std.specs.Prelude.{◌≡◌, ◌⊎◌, ℕ, ◌%◌, Some, slice_get}
use Rattle.elf_model.specs.declared.objects.Symbol.{Symbol}
use Rattle.elf_model.specs.declared.objects.Reloc.{Reloc}
use Rattle.elf_model.specs.declared.refusals.Refusal.TheVariants.{RelocKind, IntoMiddle}
use Rattle.elf_model.specs.declared.refusals.Spot.{Spot}
use Rattle.elf_model.specs.Objects.{ObjectParts}
use Rattle.code_ranges.specs.Spots.{spot_of}
use Rattle.reloc_places.specs.Relocations.{IsRight, value_of}
use Rattle.flow_recover.specs.Aims.{IsReference}

-- a relocation that makes an address of code without bit 0
pub record MakesArmAddress (o : ObjectParts) (r : Reloc) : Type 0 where
  pub symbol : Symbol
  pub section : ℕ
  pub reference : IsReference o r symbol section
  pub arm : value_of o r symbol % 2 ≡ 0

-- the spots of one relocation
abbrev pub IsWrongSpot : ObjectParts → Reloc → Spot → Type 0
IsWrongSpot o r s = (((k : ℕ) × IsRight o k r) → ⊥) × (s ≡ spot_of RelocKind r.section r.offset)

abbrev pub IsArmSpot : ObjectParts → Reloc → Spot → Type 0
IsArmSpot o r s = MakesArmAddress o r × (s ≡ spot_of IntoMiddle r.section r.offset)

abbrev pub IsRelocSpot : ObjectParts → Reloc → Spot → Type 0
IsRelocSpot o r s = IsWrongSpot o r s ⊎ IsArmSpot o r s

-- those of all relocations
pub record IsWrongReloc (o : ObjectParts) (s : Spot) : Type 0 where
  pub index : ℕ
  pub reloc : Reloc
  pub there : slice_get o.relocs index ≡ Some reloc
  pub wrong : ¬ IsRight o index reloc
  pub same : s ≡ spot_of RelocKind reloc.section reloc.offset

pub record IsArmAddress (o : ObjectParts) (s : Spot) : Type 0 where
  pub reloc : Reloc
  pub makes : MakesArmAddress o reloc
  pub same : s ≡ spot_of IntoMiddle reloc.section reloc.offset

abbrev pub IsRelocFault : ObjectParts → Spot → Type 0
IsRelocFault o s = IsWrongReloc o s ⊎ IsArmAddress o s
