use Rattle.std.proofs.Common.{take}
use Rattle.flow_recover.specs.declared.visits.Visit.{Visit}
use Rattle.flow_recover.specs.Gains.{PlacesGain, IsFrom}
use Rattle.flow_recover.specs.NodeFaults.{IsBlockPlace}
use Rattle.flow_recover.proofs.blocks.block_places.Given as goal

abbrev pub invariant-loop-v : goal.invariant-loop-v
invariant-loop-v l = PlacesGain (λ j x. IsFrom (λ (v : Visit). IsBlockPlace l.fn.o v.node) (take l.v-index l.visits) (j, x)) l.initial.places l.places
