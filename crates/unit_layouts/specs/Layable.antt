-- The laws that units of a flow's points can be laid out, and that a hardened object can be made of their layouts.
use Rattle.std.specs.Prelude.{◌≡◌, ◌≤◌, ℕ, List, IsTrue}
use Rattle.elf_model.specs.declared.refusals.TheConstants.Limit.{INPUT}
use Rattle.elf_model.specs.Objects.{ObjectParts, is_object, is_within}
use Rattle.flow_recover.specs.Flows.{FlowParts}
use Rattle.flow_recover.specs.WholeFlows.{IsFlow}
use Rattle.liveness.specs.declared.boundary.Boundary.{Boundary}
use Rattle.seq_core.specs.declared.units.Unit.{Unit as SeqUnit}
use Rattle.seq_core.specs.Places.{LayoutParts}
use Rattle.branch_layout.specs.Given.{CanLay}
use Rattle.branch_layout.specs.Layouts.{IsLayout}
use Rattle.emit_object.specs.Emitting.{units_of, CanEmit}
use Rattle.point_units.specs.Units.{AreUnits}

-- What units are made of a flow's points can be laid out.
abbrev pub UnitsCanBeLaid : Type 0
UnitsCanBeLaid = (o : ObjectParts) (f : FlowParts) (b : Boundary) (c : ℕ) (units : List SeqUnit) → IsTrue (is_within o INPUT) → IsFlow o f → 2 ≤ c → c ≤ 4 → AreUnits o f b c f.points units → CanLay units f.words

-- Their layouts can be emitted.
abbrev pub LayoutsCanBeEmitted : Type 0
LayoutsCanBeEmitted = (o : ObjectParts) (f : FlowParts) (b : Boundary) (c : ℕ) (units : List SeqUnit) (l : LayoutParts) → IsTrue (is_object o) → IsTrue (is_within o INPUT) → IsFlow o f → 2 ≤ c → c ≤ 4 →
    AreUnits o f b c f.points units → IsLayout units f.words l → CanEmit o f l × (units_of l ≡ units)
