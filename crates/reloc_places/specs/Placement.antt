-- How right relocations are told: whether what stands in a place fits, and how far the relocations before reach.
use Rattle.std.specs.Prelude.{◌≡◌, ◌≤◌, ℕ, ◌+◌, ◌-◌, ◌^◌, ◌==◌, max, Bool, true, false, List, [], ◌∷◌, Option, Some, None, Ok, Err, if◌then◌else◌}
use Rattle.elf_model.specs.declared.objects.Section.{Section}
use Rattle.elf_model.specs.declared.objects.Reloc.{Reloc}
use Rattle.elf_model.specs.declared.objects.RelocKind.{RelocKind}
use Rattle.elf_model.specs.Objects.{ObjectParts, is_data, place_width}
use Rattle.thumb_instr.specs.Rows.{Answer}
use Rattle.reloc_places.specs.declared.relocations.Reach.{Reach}
use Rattle.reloc_places.specs.Starts.{bytes_of}
use Rattle.reloc_places.specs.Relocations.{fits_kind, IsPlace, is_open_jump, addend}

abbrev pub holds_data : Option Section → Bool
holds_data None = false
holds_data (Some s) = is_data s

abbrev pub fits_answer : RelocKind → Bool → Answer → Bool
fits_answer kind long (Ok i) = fits_kind kind long i
fits_answer kind long (Err e) = false

-- where the last byte of relocations of section j ends
abbrev pub reach_in : ℕ → List Reloc → ℕ
reach_in j [] = 0
reach_in j (r ∷ rest) = if r.section == j then max (r.offset + place_width r.kind) (reach_in j rest) else reach_in j rest

-- the same by the section of the last relocation, and with one more relocation
abbrev pub end_in : Reach → ℕ → ℕ
end_in reach j = if reach.section == j then reach.end else 0

abbrev pub reach_with : Reach → Reloc → Reach
reach_with reach r = record { section = r.section; end = max (r.offset + place_width r.kind) (end_in reach r.section) }

-- a branch or call to an undefined symbol leads to the symbol itself
abbrev pub IsStraight : ObjectParts → Reloc → Type 0
IsStraight o r = is_open_jump o r ≡ true → addend (bytes_of o r.section) r ≡ 2 ^ 32 - 4

-- a relocation that may stand where it does, behind others that reach up to an offset
pub record MayStand (o : ObjectParts) (end : ℕ) (r : Reloc) : Type 0 where
  pub place : IsPlace o r
  pub alone : end ≤ r.offset
  pub straight : IsStraight o r
