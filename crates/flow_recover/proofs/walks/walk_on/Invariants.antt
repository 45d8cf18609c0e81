use Rattle.std.proofs.Common.{Some}
use Rattle.flow_recover.specs.Walks.{IsWalkedOn}
use Rattle.flow_recover.proofs.WalkFacts.{to_go}
use Rattle.flow_recover.proofs.walks.walk_on.Given as goal

abbrev pub invariant-loop-at : goal.invariant-loop-at
invariant-loop-at l = IsWalkedOn l.o (Some l.fn.n) l.fn.walk l.walk l.at

abbrev pub decreases-loop-at : goal.decreases-loop-at
decreases-loop-at l = to_go l.at
