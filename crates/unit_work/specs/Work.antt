-- The law that the unit of a point does the point's instruction, wherever its section comes to stand.
use Rattle.std.specs.Prelude.{◌≡◌, ◌≤◌, ℕ, ◌+◌, ◌&&◌, true, List, Some, is_some, map, slice_get, slice_index, Contains}
use Rattle.elf_model.specs.declared.objects.Section.{Section}
use Rattle.elf_model.specs.Objects.{ObjectParts, is_code}
use Rattle.thumb_encode.specs.Encoding.{width_of}
use Rattle.reloc_places.specs.Relocations.{reloc_at}
use Rattle.flow_recover.specs.declared.flows.Point.{Point}
use Rattle.flow_recover.specs.Flows.{FlowParts}
use Rattle.flow_recover.specs.WholeFlows.{IsFlow}
use Rattle.liveness.specs.declared.boundary.Boundary.{Boundary}
use Rattle.seq_core.specs.Places.{PlacedParts, LayoutParts}
use Rattle.branch_layout.specs.Copies.{bytes_of}
use Rattle.branch_layout.specs.Goals.{placed_instr}
use Rattle.branch_layout.specs.Laid.{laid_place, laid_places}
use Rattle.emit_object.specs.UnitCopies.{Copy, unit_copies, carries}
use Rattle.emit_object.specs.Emitting.{units_of, CanEmit}
use Rattle.point_units.specs.Units.{IsUnitOf, AreUnits}
use Rattle.sim_relation.specs.Sequences.{PlacedStep, Sequence}
use Rattle.sim_relation.specs.Doing.{DoesIt}

-- a copy of a unit's step as an instruction of the hardened object
abbrev pub placed_step : ObjectParts → LayoutParts → PlacedParts → Copy → PlacedStep
placed_step h l u c = record {
  at = c.at;
  width = bytes_of (width_of c.code);
  instr = placed_instr (laid_places l) u.unit (laid_place u) c.at c.step;
  reloc = reloc_at h u.unit.section c.at;
}

abbrev pub sequence_of : ObjectParts → LayoutParts → PlacedParts → List ℕ → Sequence
sequence_of h l u scratch = record { steps = map (placed_step h l u) (unit_copies u); behind = u.start + u.length; scratch = scratch }

-- Relocations in code stand on the copies that carry that of their point, and on no others.
abbrev pub AreOnCarriers : ObjectParts → LayoutParts → Type 0
AreOnCarriers h l = (k : ℕ) (u : PlacedParts) (c : Copy) → slice_get l.units k ≡ Some u → Contains (unit_copies u) c →
    is_some (reloc_at h u.unit.section c.at) ≡ (is_some u.unit.reloc && carries c.step)

-- its code sections are as long as the layout says
abbrev pub AreSized : ObjectParts → LayoutParts → Type 0
AreSized h l = (j : ℕ) (t : Section) → slice_get h.sections j ≡ Some t → is_code t ≡ true → t.size ≡ slice_index l.sizes j

-- of what a hardened object is made by way of units and their layout
pub record IsLaidOf (o : ObjectParts) (f : FlowParts) (b : Boundary) (c : ℕ) (l : LayoutParts) : Type 0 where
  pub least : 2 ≤ c
  pub most : c ≤ 4
  pub flow : IsFlow o f
  pub units : AreUnits o f b c f.points (units_of l)
  pub can : CanEmit o f l

-- under every schedule that is legal for that many copies
abbrev pub UnitsWork : Type 0
UnitsWork = (o h : ObjectParts) (f : FlowParts) (b : Boundary) (c : ℕ) (l : LayoutParts) → IsLaidOf o f b c l → AreOnCarriers h l → AreSized h l →
    (k : ℕ) (x : Point) (u : PlacedParts) → slice_get f.points k ≡ Some x → slice_get l.units k ≡ Some u → (is : IsUnitOf o f b c x u.unit) →
    DoesIt o h f (laid_places l) c true x (laid_place u) (sequence_of h l u is.scratch)
