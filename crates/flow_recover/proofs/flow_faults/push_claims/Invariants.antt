use Rattle.std.proofs.Common.{take}
use Rattle.flow_recover.specs.Gains.{Gains, IsFrom}
use Rattle.flow_recover.specs.NodeFaults.{IsClaimSpot}
use Rattle.flow_recover.proofs.flow_faults.push_claims.Given as goal

abbrev pub invariant-loop-c : goal.invariant-loop-c
invariant-loop-c l = Gains (IsFrom (IsClaimSpot l.fn.o) (take l.c-index l.claims)) l.fn.spots.items l.spots.items
