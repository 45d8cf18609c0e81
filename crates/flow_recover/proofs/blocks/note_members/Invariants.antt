use Rattle.flow_recover.proofs.BlockFacts.{AreNoted}
use Rattle.flow_recover.proofs.blocks.note_members.Given as goal

abbrev pub invariant-loop-k : goal.invariant-loop-k
invariant-loop-k l = AreNoted l.bytes l.section l.b l.fn.places l.places l.k l.at
