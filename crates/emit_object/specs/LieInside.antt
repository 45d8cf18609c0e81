-- Units and words of a hardened object lie in its sections.
use Rattle.std.specs.Prelude.{◌≡◌, ◌≤◌, ℕ, ◌+◌, true, List, Some, slice_get}
use Rattle.elf_model.specs.declared.objects.Section.{Section}
use Rattle.elf_model.specs.Objects.{ObjectParts}
use Rattle.flow_recover.specs.Flows.{FlowParts}
use Rattle.hardened_form.specs.Places.{Places}
use Rattle.hardened_form.specs.Items.{Item}
use Rattle.hardened_form.specs.Standing.{new_place}
use Rattle.hardened_form.specs.MappingSymbols.{has_word, has_unit}

-- an offset is one of a section, or its end
pub record LiesIn (h : ObjectParts) (j x : ℕ) : Type 0 where
  pub section : Section
  pub there : slice_get h.sections j ≡ Some section
  pub low : x ≤ section.size

-- the units of points begin before the ends of their sections, at even offsets
pub record LieInside (h : ObjectParts) (f : FlowParts) (p : Places) (items : List Item) : Type 0 where
  pub points : (j x y : ℕ) → new_place items j x ≡ Some y → LiesIn h j (y + 1)
  pub words : (j x : ℕ) → has_word f p j x ≡ true → LiesIn h j x
  pub units : (j x : ℕ) → has_unit f p j x ≡ true → LiesIn h j x
