-- What hardening asks of the generated object: neither liveness nor want of scratch registers refuses it, and its units are laid out.
use Rattle.std.specs.Prelude.{ℕ, List}
use Rattle.elf_model.specs.declared.refusals.Refusal.{Refusal}
use Rattle.elf_model.specs.declared.refusals.Spot.{Spot}
use Rattle.flow_recover.specs.Flows.{FlowParts}
use Rattle.flow_recover.specs.WholeFlows.{IsFlow}
use Rattle.liveness.specs.Faults.{LiveFault}
use Rattle.seq_core.specs.declared.units.Unit.{Unit as SeqUnit}
use Rattle.sim_relation.specs.Accepted.{boundaries}
use Rattle.branch_layout.specs.Faults.{IsLayRefusal}
use Rattle.point_units.specs.Scratch.{IsScratchRefusal}
use Rattle.point_units.specs.Units.{AreUnits}
use Rattle.gen_object.specs.Generated.{generated}
use Rattle.gen_flow.specs.GeneratedCode.{IsCount}

-- No r12 and no flag is live where control enters, nor lr where a call returns.
abbrev pub GeneratedFlowsAreLive : Type 0
GeneratedFlowsAreLive =
    (seed count : ℕ) (f : FlowParts) → IsCount count → IsFlow (generated seed count) f → (r : Refusal) (section offset : ℕ) → ¬ LiveFault f (boundaries 4) r section offset

-- Each point has its scratch registers.
abbrev pub GeneratedPointsHaveScratch : Type 0
GeneratedPointsHaveScratch =
    (seed count : ℕ) (f : FlowParts) (spot : Spot) → IsCount count → IsFlow (generated seed count) f → ¬ IsScratchRefusal f (boundaries 4) spot

-- Its units have a layout.
abbrev pub GeneratedUnitsAreLaid : Type 0
GeneratedUnitsAreLaid =
    (seed count : ℕ) (f : FlowParts) (units : List SeqUnit) (spot : Spot) → IsCount count → IsFlow (generated seed count) f
    → AreUnits (generated seed count) f (boundaries 4) 2 f.points units → ¬ IsLayRefusal units f.words spot
