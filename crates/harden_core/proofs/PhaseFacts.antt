-- What each phase refuses is what hardening refuses.
use Rattle.std.proofs.Common.{ℕ, List}
use Rattle.elf_model.specs.declared.refusals.Deny.{Deny}
use Rattle.elf_model.specs.declared.refusals.Deny.TheVariants.{NoMemory, Refused}
use Rattle.elf_model.specs.Objects.{ObjectParts}
use Rattle.flow_recover.specs.FlowFaults.{IsFlowDenial}
use Rattle.flow_recover.specs.Flows.{FlowParts}
use Rattle.flow_recover.specs.WholeFlows.{IsFlow}
use Rattle.liveness.specs.declared.boundary.Boundary.{Boundary}
use Rattle.liveness.specs.Faults.{IsLiveDenial}
use Rattle.seq_core.specs.declared.units.Unit.{Unit as SeqUnit}
use Rattle.branch_layout.specs.Faults.{IsLayDenial}
use Rattle.point_units.specs.Scratch.{IsScratchDenial}
use Rattle.point_units.specs.Units.{AreUnits}
use Rattle.harden_core.specs.Denials.{IsUnrefused, IsHardenRefusal, IsHardenDenial}

pub flow_denied : (o : ObjectParts) (b : Boundary) (copies : ℕ) (why : Deny) → IsFlowDenial o why → IsHardenDenial o b copies why
flow_denied o b copies NoMemory d = tt
flow_denied o b copies (Refused spot) d = IsHardenRefusal.of_flow d

pub live_denied : (o : ObjectParts) (f : FlowParts) (b : Boundary) (copies : ℕ) → IsFlow o f → (why : Deny) → IsLiveDenial f b why → IsHardenDenial o b copies why
live_denied o f b copies flow NoMemory d = tt
live_denied o f b copies flow (Refused spot) d = IsHardenRefusal.of_liveness f flow d

pub scratch_denied : (o : ObjectParts) (f : FlowParts) (b : Boundary) (copies : ℕ) → IsFlow o f → IsUnrefused f b → (why : Deny) → IsScratchDenial f b why → IsHardenDenial o b copies why
scratch_denied o f b copies flow live NoMemory d = tt
scratch_denied o f b copies flow live (Refused spot) d = IsHardenRefusal.of_scratch f flow live d

pub layout_denied : (o : ObjectParts) (f : FlowParts) (b : Boundary) (copies : ℕ) (units : List SeqUnit) → IsFlow o f → IsUnrefused f b → AreUnits o f b copies f.points units
    → (why : Deny) → IsLayDenial units f.words why → IsHardenDenial o b copies why
layout_denied o f b copies units flow live are NoMemory d = tt
layout_denied o f b copies units flow live are (Refused spot) d = IsHardenRefusal.of_layout f units flow live are d
