-- From which layouts a hardened object is made.
use Rattle.std.specs.Prelude.{◌≡◌, ◌<◌, ◌≤◌, ℕ, true, false, count_by, length, List, Some, Ok, map, slice_get, slice_index, Contains}
use Rattle.elf_model.specs.declared.objects.Reloc.{Reloc}
use Rattle.elf_model.specs.Objects.{ObjectParts}
use Rattle.reloc_places.specs.Relocations.{is_jump, fits_kind, number_in}
use Rattle.flow_recover.specs.declared.flows.Point.{Point}
use Rattle.flow_recover.specs.Flows.{FlowParts}
use Rattle.seq_core.specs.declared.steps.Step.{Step}
use Rattle.seq_core.specs.declared.units.Unit.{Unit as SeqUnit}
use Rattle.seq_core.specs.Places.{PlacedParts, LayoutParts}
use Rattle.hardened_form.specs.Carriers.{kind_on}
use Rattle.hardened_form.specs.Turns.{new_addend}
use Rattle.branch_layout.specs.Given.{CanLay}
use Rattle.branch_layout.specs.Layouts.{IsLayout}
use Rattle.emit_object.specs.UnitCopies.{carries}

abbrev pub unit_of : PlacedParts → SeqUnit
unit_of u = u.unit

abbrev pub units_of : LayoutParts → List SeqUnit
units_of l = map unit_of l.units

-- a unit of a point
pub record IsUnitAt (x : Point) (u : SeqUnit) : Type 0 where
  pub section : u.section ≡ x.section
  pub old : u.old ≡ x.offset
  pub word : u.word ≡ x.word
  pub reloc : u.reloc ≡ x.reloc

-- A step that carries a relocation is of its kind, a branch just where that is of one. MOVW and MOVT have the number that
-- is left.
pub record TakesReloc (o : ObjectParts) (r : Reloc) (s : Step) : Type 0 where
  pub sense : is_jump (kind_on s.instr r.kind) ≡ is_jump r.kind
  pub fits : fits_kind (kind_on s.instr r.kind) true s.instr ≡ true
  pub number : is_jump r.kind ≡ false → number_in (Ok s.instr) ≡ new_addend o r

-- It is the layout of units of the flow's points, in their order, and of its words. Each unit begins before its section ends.
pub record CanEmit (o : ObjectParts) (f : FlowParts) (l : LayoutParts) : Type 0 where
  pub can : CanLay (units_of l) f.words
  pub layout : IsLayout (units_of l) f.words l
  pub count : length l.units ≡ length f.points
  pub each : (k : ℕ) (x : Point) (u : PlacedParts) → slice_get f.points k ≡ Some x → slice_get l.units k ≡ Some u → IsUnitAt x u.unit
  pub relocs : (k n : ℕ) (u : PlacedParts) (r : Reloc) (s : Step) → slice_get l.units k ≡ Some u → u.unit.reloc ≡ Some n → slice_get o.relocs n ≡ Some r
      → Contains u.unit.seq.steps s → carries s ≡ true → TakesReloc o r s
  -- one step of a unit carries its relocation at most
  pub one : (k : ℕ) (u : PlacedParts) → slice_get l.units k ≡ Some u → count_by carries u.unit.seq.steps ≤ 1
  pub inside : (k : ℕ) (u : PlacedParts) → slice_get l.units k ≡ Some u → u.start < slice_index l.sizes u.unit.section
