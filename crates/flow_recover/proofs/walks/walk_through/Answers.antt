use Rattle.flow_recover.proofs.WalkFacts.{taken_walks, taken_turned, taken_fewer, walked_through}
use Rattle.flow_recover.proofs.walks.walk_through.Goals as goal

pub walk_on-requires-clause-walk : goal.walk_on-requires-clause-walk
walk_on-requires-clause-walk c = taken_walks c.args.o.now c.loop-n.walk c.take.new.walk c.in-Some.n c.loop-n.invariant.walk c.in-Some.ensures

pub loop-n-preserved : goal.loop-n-preserved
loop-n-preserved c = taken_turned c.args.o.now c.loop-n.walk c.take.new.walk c.in-Some.n c.loop-n.invariant.walk c.args.walk.now c.walk_on.new.walk c.loop-n.invariant c.in_ok-walk_on.ensures c.in-Some.ensures

pub loop-n-smaller : goal.loop-n-smaller
loop-n-smaller c = taken_fewer c.args.o.now c.loop-n.walk c.take.new.walk c.in-Some.n c.loop-n.invariant.walk c.args.walk.now c.walk_on.new.walk c.loop-n.invariant c.in_ok-walk_on.ensures c.in-Some.ensures

pub returns : goal.returns
returns c = walked_through c.args.o.now c.args.walk.now c.loop-n.walk c.take.new.walk c.take.result c.loop-n.invariant c.in_default.not-Some c.take.ensures
