use Rattle.std.proofs.Common.{take}
use Rattle.flow_recover.specs.Gains.{Gains, IsFrom}
use Rattle.flow_recover.specs.NodeFaults.{IsBadSpot}
use Rattle.flow_recover.proofs.VisitFacts.{AreRead}
use Rattle.flow_recover.proofs.visits.visits_of.Given as goal

-- the visits of the nodes so far, and their spots
abbrev pub invariant-loop-n : goal.invariant-loop-n
invariant-loop-n l = record { read : AreRead l.fn.o (take l.n-index l.nodes) l.visits.items; bad : Gains (IsFrom (IsBadSpot l.fn.o) (take l.n-index l.nodes)) l.fn.spots.items l.spots.items }
