use Rattle.std.proofs.Common.{◌-◌, length}
use Rattle.liveness.proofs.PutFacts.{IsPutting, reached}
use Rattle.liveness.proofs.worklist.put_sources.Given as goal

abbrev pub invariant-loop-edge : goal.invariant-loop-edge
invariant-loop-edge l = IsPutting l.edges.edges l.p l.fn.pending l.pending l.edge

abbrev pub decreases-loop-edge : goal.decreases-loop-edge
decreases-loop-edge l = length l.edges.edges - reached l.edges.edges l.edge
