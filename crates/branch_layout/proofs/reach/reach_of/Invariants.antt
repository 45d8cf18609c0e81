use Rattle.branch_layout.proofs.ReachFacts.{ReachUpTo}
use Rattle.branch_layout.proofs.reach.reach_of.Given as goal

abbrev pub invariant-loop-k : goal.invariant-loop-k
invariant-loop-k l = ReachUpTo l.placing l.unit l.stretch l.k l.at l.most
