use Rattle.flow_recover.proofs.BlockFacts.{AreWhole}
use Rattle.flow_recover.proofs.blocks.are_whole.Given as goal

abbrev pub invariant-loop-k : goal.invariant-loop-k
invariant-loop-k l = AreWhole l.bytes l.b l.whole l.k l.at
