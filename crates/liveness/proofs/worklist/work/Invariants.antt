use Rattle.std.proofs.Common.{◌+◌, length}
use Rattle.liveness.specs.Edges.{edges_of}
use Rattle.liveness.specs.Work.{IsWorking, lacking_over}
use Rattle.liveness.proofs.worklist.work.Given as goal

abbrev pub invariant-loop-p : goal.invariant-loop-p
invariant-loop-p l = IsWorking l.f l.b l.sets l.pending

abbrev pub decreases-loop-p : goal.decreases-loop-p
decreases-loop-p l = length l.pending.waiting + lacking_over (edges_of l.f) l.sets.sets
