-- Hardened objects with the new bytes of code.
use Rattle.std.specs.Prelude.{◌≡◌, ℕ, true, List, Some, slice_get}
use Rattle.elf_model.specs.declared.objects.Section.{Section}
use Rattle.elf_model.specs.Objects.{ObjectParts, is_code}
use Rattle.seq_core.specs.Places.{LayoutParts}
use Rattle.emit_object.specs.Laid.{HasSizes}
use Rattle.emit_object.specs.CodeBytes.{bytes_in}

-- h has the code sections of o, of the layout's sizes and with these bytes.
pub record HasNewCode (o h : ObjectParts) (l : LayoutParts) (all : List (List ℕ)) : Type 0 where
  pub sizes : HasSizes o h l.sizes
  pub bytes : (j : ℕ) (t : Section) → slice_get h.sections j ≡ Some t → is_code t ≡ true → t.bytes ≡ bytes_in all j
