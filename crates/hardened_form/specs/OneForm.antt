-- What two hardened forms of one object have in common that put its units and words at the same places.
use Rattle.std.specs.Prelude.{◌≡◌, ℕ, true, false, List, length, Some, slice_get}
use Rattle.elf_model.specs.declared.objects.Section.{Section}
use Rattle.elf_model.specs.Objects.{ObjectParts, is_code}
use Rattle.flow_recover.specs.Flows.{FlowParts}
use Rattle.hardened_form.specs.Places.{Places}
use Rattle.hardened_form.specs.Carriers.{Carrier}
use Rattle.hardened_form.specs.HardenedForms.{IsHardenedForm}

-- all but the bytes of code
pub record AreAlike (o g h : ObjectParts) : Type 0 where
  pub flags : g.flags ≡ h.flags
  pub count : length g.sections ≡ length h.sections
  pub code : (j : ℕ) (s t u : Section) → slice_get o.sections j ≡ Some s → is_code s ≡ true → slice_get g.sections j ≡ Some t → slice_get h.sections j ≡ Some u → t ≡ record u { bytes = t.bytes }
  pub others : (j : ℕ) (s t u : Section) → slice_get o.sections j ≡ Some s → is_code s ≡ false → slice_get g.sections j ≡ Some t → slice_get h.sections j ≡ Some u → t ≡ u
  pub map : slice_get g.sections (length o.sections) ≡ slice_get h.sections (length o.sections)
  pub symbols : g.symbols ≡ h.symbols
  pub relocs : g.relocs ≡ h.relocs

abbrev pub FormsAreAlike : Type 0
FormsAreAlike = (o g h : ObjectParts) (f : FlowParts) (p : Places) (carriers : List (List Carrier)) → IsHardenedForm o g f p carriers → IsHardenedForm o h f p carriers → AreAlike o g h
