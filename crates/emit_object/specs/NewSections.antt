-- The sections of a hardened object, by the new bytes of code and the bytes that are kept.
use Rattle.std.specs.Prelude.{◌≡◌, ℕ, ◌+◌, max, true, false, List, length, Some, if◌then◌else◌, slice_get, slice_index, Vec}
use Rattle.std.specs.Global.{Global}
use Rattle.std.specs.List.{list_any}
use Rattle.elf_model.specs.declared.objects.Section.{Section}
use Rattle.elf_model.specs.declared.objects.MapRow.{MapRow}
use Rattle.elf_model.specs.Objects.{ObjectParts, is_code}
use Rattle.elf_model.specs.Maps.{map_section}
use Rattle.emit_object.specs.KeptBytes.{AreCleared, clears}

-- aligned to 4 at least, all else as it was
abbrev pub code_section : Section → ℕ → List ℕ → Section
code_section s size bytes = record { name = s.name; kind = s.kind; flags = s.flags; align = max 4 s.align; entry = s.entry; size = size; bytes = bytes }

-- all but the bytes as it was
abbrev pub kept_section : Section → List ℕ → Section
kept_section s bytes = record s { bytes = bytes }

abbrev pub new_section : Section → ℕ → List ℕ → List ℕ → Section
new_section s size code kept = if is_code s then code_section s size code else kept_section s kept

-- the first n sections
pub record AreMade (sections : List Section) (sizes : List ℕ) (code kept : List (Vec ℕ Global)) (n : ℕ) (list : List Section) : Type 0 where
  pub count : length list ≡ n
  pub each : (j : ℕ) (s t : Section) (v w : Vec ℕ Global) → slice_get sections j ≡ Some s → slice_get list j ≡ Some t → slice_get code j ≡ Some v → slice_get kept j ≡ Some w
      → t ≡ new_section s (slice_index sizes j) v.items w.items

-- all of them, and the map
pub record AreNewSections (o : ObjectParts) (sizes : List ℕ) (code : List (Vec ℕ Global)) (rows : List MapRow) (list : List Section) : Type 0 where
  pub count : length list ≡ length o.sections + 1
  pub coded : (j : ℕ) (s t : Section) (v : Vec ℕ Global) → slice_get o.sections j ≡ Some s → slice_get list j ≡ Some t → slice_get code j ≡ Some v → is_code s ≡ true
      → t ≡ code_section s (slice_index sizes j) v.items
  pub kept : (j : ℕ) (s t : Section) → slice_get o.sections j ≡ Some s → slice_get list j ≡ Some t → is_code s ≡ false → t ≡ kept_section s t.bytes
  pub cleared : (j : ℕ) (s t : Section) → slice_get o.sections j ≡ Some s → slice_get list j ≡ Some t → is_code s ≡ false → AreCleared (λ x. list_any (clears o j x) o.relocs) s.bytes t.bytes
  pub map : slice_get list (length o.sections) ≡ Some (map_section rows)
