use Rattle.code_ranges.proofs.SpotFacts.{first_more}
use Rattle.code_ranges.proofs.faults.first_of.Goals as goal

pub loop-s-preserved : goal.loop-s-preserved
loop-s-preserved c = first_more c.args.spots.now c.loop-s.s-index _ c.loop-s.first c.earlier.result c.loop-s-test.true c.earlier.ensures c.loop-s.invariant
