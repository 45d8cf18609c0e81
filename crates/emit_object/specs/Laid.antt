-- A layout of a flow, and hardened objects with its sizes.
use Rattle.std.specs.Prelude.{◌≡◌, ◌<◌, ℕ, ◌+◌, ◌^◌, true, false, List, length, Some, slice_get, slice_index, Contains}
use Rattle.elf_model.specs.declared.objects.Section.{Section}
use Rattle.elf_model.specs.Objects.{ObjectParts, is_code}
use Rattle.flow_recover.specs.declared.flows.Point.{Point}
use Rattle.flow_recover.specs.Flows.{FlowParts}
use Rattle.seq_core.specs.Places.{PlacedParts, LayoutParts}
use Rattle.hardened_form.specs.MappingSymbols.{has_word, has_unit}
use Rattle.branch_layout.specs.Laid.{laid_places as places_of}

-- It has a unit for each point, of its section, and a place for each word; no unit with bytes begins at a word.
pub record Matches (f : FlowParts) (l : LayoutParts) : Type 0 where
  pub units : length l.units ≡ length f.points
  pub words : length l.words ≡ length f.words
  pub sections : (k : ℕ) (x : Point) (u : PlacedParts) → slice_get f.points k ≡ Some x → slice_get l.units k ≡ Some u → u.unit.section ≡ x.section
  pub apart : (j x : ℕ) → has_unit f (places_of l) j x ≡ true → has_word f (places_of l) j x ≡ false

-- a section of code stands at a number
pub record HasCode (sections : List Section) (j : ℕ) : Type 0 where
  pub section : Section
  pub there : slice_get sections j ≡ Some section
  pub code : is_code section ≡ true

-- h has the code sections of o, of these sizes.
pub record HasSizes (o h : ObjectParts) (sizes : List ℕ) : Type 0 where
  pub olds : (j : ℕ) (t : Section) → slice_get h.sections j ≡ Some t → is_code t ≡ true → HasCode o.sections j
  pub news : (j : ℕ) (s : Section) → slice_get o.sections j ≡ Some s → is_code s ≡ true → HasCode h.sections j
  pub same : (j : ℕ) (t : Section) → slice_get h.sections j ≡ Some t → is_code t ≡ true → t.size ≡ slice_index sizes j

-- a unit begins at an offset
pub record BeginsAt (units : List PlacedParts) (at : ℕ) : Type 0 where
  pub unit : PlacedParts
  pub there : Contains units unit
  pub begins : unit.start ≡ at

-- a place with bit 0 set is a number of 32 bits
abbrev pub IsLow : PlacedParts → Type 0
IsLow u = u.start + 1 < 2 ^ 32
