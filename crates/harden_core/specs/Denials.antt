-- Why an object is not hardened: the first cause of flow, of liveness, of scratch registers, of the layout.
use Rattle.std.specs.Prelude.{ℕ, List, ⊤}
use Rattle.elf_model.specs.declared.refusals.Refusal.{Refusal}
use Rattle.elf_model.specs.declared.refusals.Spot.{Spot}
use Rattle.elf_model.specs.declared.refusals.Deny.{Deny}
use Rattle.elf_model.specs.declared.refusals.Deny.TheVariants.{NoMemory, Refused}
use Rattle.elf_model.specs.Objects.{ObjectParts}
use Rattle.flow_recover.specs.FlowFaults.{IsFlowDenial}
use Rattle.flow_recover.specs.Flows.{FlowParts}
use Rattle.flow_recover.specs.WholeFlows.{IsFlow}
use Rattle.liveness.specs.declared.boundary.Boundary.{Boundary}
use Rattle.liveness.specs.Faults.{LiveFault, IsLiveRefusal}
use Rattle.seq_core.specs.declared.units.Unit.{Unit as SeqUnit}
use Rattle.branch_layout.specs.Faults.{IsLayRefusal}
use Rattle.point_units.specs.Scratch.{IsScratchRefusal}
use Rattle.point_units.specs.Units.{AreUnits}

-- liveness refuses nothing
abbrev pub IsUnrefused : FlowParts → Boundary → Type 0
IsUnrefused f b = (r : Refusal) (section offset : ℕ) → ¬ LiveFault f b r section offset

-- the phases, each where none before it refuses
pub data IsHardenRefusal (o : ObjectParts) (b : Boundary) (copies : ℕ) (spot : Spot) : Type 0 where
  of_flow : IsFlowDenial o (Refused spot) → IsHardenRefusal o b copies spot
  of_liveness : (f : FlowParts) → IsFlow o f → IsLiveRefusal f b spot → IsHardenRefusal o b copies spot
  of_scratch : (f : FlowParts) → IsFlow o f → IsUnrefused f b → IsScratchRefusal f b spot → IsHardenRefusal o b copies spot
  of_layout : (f : FlowParts) (units : List SeqUnit) → IsFlow o f → IsUnrefused f b → AreUnits o f b copies f.points units → IsLayRefusal units f.words spot → IsHardenRefusal o b copies spot

abbrev pub IsHardenDenial : ObjectParts → Boundary → ℕ → Deny → Type 0
IsHardenDenial o b copies NoMemory = ⊤
IsHardenDenial o b copies (Refused spot) = IsHardenRefusal o b copies spot
