use Rattle.std.proofs.Common.{None}
use Rattle.flow_recover.specs.Walks.{IsWalkedOn, turns_left}
use Rattle.flow_recover.proofs.walks.walk_through.Given as goal

abbrev pub invariant-loop-n : goal.invariant-loop-n
invariant-loop-n l = IsWalkedOn l.o None l.fn.walk l.walk None

abbrev pub decreases-loop-n : goal.decreases-loop-n
decreases-loop-n l = turns_left l.walk
