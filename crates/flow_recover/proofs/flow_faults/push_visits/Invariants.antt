use Rattle.std.proofs.Common.{take}
use Rattle.flow_recover.specs.Gains.{Gains, IsFrom}
use Rattle.flow_recover.specs.NodeFaults.{IsVisitSpot}
use Rattle.flow_recover.proofs.flow_faults.push_visits.Given as goal

abbrev pub invariant-loop-v : goal.invariant-loop-v
invariant-loop-v l = Gains (IsFrom (IsVisitSpot l.fn.o) (take l.v-index l.visits)) l.fn.spots.items l.spots.items
