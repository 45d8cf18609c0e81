-- The sections of a hardened object: the old ones in order, code aligned to 4 at least, everything else as it was but for
-- words whose relocation turns, which are 0; and last the map.
use Rattle.std.specs.Prelude.{◌≡◌, ◌<◌, ℕ, ◌+◌, ◌==◌, ◌&&◌, max, nat_le, nat_lt, Bool, true, false, List, length, Some, if◌then◌else◌, slice_get}
use Rattle.std.specs.List.{list_any}
use Rattle.elf_model.specs.declared.objects.Section.{Section}
use Rattle.elf_model.specs.declared.objects.Reloc.{Reloc}
use Rattle.elf_model.specs.declared.objects.MapRow.{MapRow}
use Rattle.elf_model.specs.Fields.{byte_at}
use Rattle.elf_model.specs.Objects.{ObjectParts, is_code}
use Rattle.elf_model.specs.Maps.{map_section}
use Rattle.hardened_form.specs.Turns.{is_turned}

-- a byte of a word whose relocation turns
abbrev pub is_cleared : ObjectParts → ℕ → ℕ → Bool
is_cleared o j x = list_any (λ (r : Reloc). (r.section == j) && (nat_le r.offset x && (nat_lt x (r.offset + 4) && is_turned o r))) o.relocs

-- data and what is not in memory: byte for byte but for these words
pub record IsKept (o : ObjectParts) (j : ℕ) (s t : Section) : Type 0 where
  pub size : t.size ≡ s.size
  pub align : t.align ≡ s.align
  pub count : length t.bytes ≡ length s.bytes
  pub bytes : (x : ℕ) → x < length s.bytes → byte_at t.bytes x ≡ (if is_cleared o j x then 0 else byte_at s.bytes x)

-- what becomes of section j
pub record IsNewSection (o : ObjectParts) (j : ℕ) (s t : Section) : Type 0 where
  pub name : t.name ≡ s.name
  pub kind : t.kind ≡ s.kind
  pub flags : t.flags ≡ s.flags
  pub entry : t.entry ≡ s.entry
  pub code : is_code s ≡ true → t.align ≡ max 4 s.align
  pub kept : is_code s ≡ false → IsKept o j s t

pub record AreSections (o h : ObjectParts) (rows : List MapRow) : Type 0 where
  pub flags : h.flags ≡ o.flags
  pub count : length h.sections ≡ length o.sections + 1
  pub each : (j : ℕ) (s t : Section) → slice_get o.sections j ≡ Some s → slice_get h.sections j ≡ Some t → IsNewSection o j s t
  pub map : slice_get h.sections (length o.sections) ≡ Some (map_section rows)
