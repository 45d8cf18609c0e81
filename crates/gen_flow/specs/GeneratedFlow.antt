-- What the flow of a generated object is made of, and that nothing stands in its way.
use Rattle.std.specs.Prelude.{◌≡◌, ℕ, Some, None, slice_get}
use Rattle.elf_model.specs.declared.refusals.Spot.{Spot}
use Rattle.elf_model.specs.declared.refusals.Deny.TheVariants.{Refused}
use Rattle.thumb_instr.specs.declared.conditions.Cond.TheVariants.{Al}
use Rattle.flow_recover.specs.declared.flows.Point.{Point}
use Rattle.flow_recover.specs.FlowFaults.{IsFlowDenial}
use Rattle.flow_recover.specs.Flows.{FlowParts}
use Rattle.flow_recover.specs.WholeFlows.{IsFlow, plain_exit}
use Rattle.gen_object.specs.Generated.{generated}
use Rattle.gen_flow.specs.GeneratedCode.{IsCount, StandsAt}

-- a point of it: an instruction that stands there, under no condition, that branches nowhere and loads no word
pub record IsGeneratedPoint (seed count : ℕ) (x : Point) : Type 0 where
  pub section : x.section ≡ 0
  pub stands : StandsAt seed count x.offset x.instr
  pub cond : x.cond ≡ Al
  pub exit : x.exit ≡ plain_exit x.instr
  pub word : x.word ≡ None

-- Each point of the flow of a generated object is one of these.
abbrev pub GeneratedPointsAreKnown : Type 0
GeneratedPointsAreKnown =
    (seed count : ℕ) (f : FlowParts) (p : ℕ) (x : Point) → IsCount count → IsFlow (generated seed count) f → slice_get f.points p ≡ Some x → IsGeneratedPoint seed count x

-- No fault of ranges or of flow refuses it.
abbrev pub GeneratedFlowsAreRecovered : Type 0
GeneratedFlowsAreRecovered =
    (seed count : ℕ) (spot : Spot) → IsCount count → ¬ IsFlowDenial (generated seed count) (Refused spot)
