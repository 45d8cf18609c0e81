use Rattle.std.proofs.Common.{Option, Some, subst}
use Rattle.flow_recover.specs.declared.nodes.Node.{Node}
use Rattle.flow_recover.specs.Walks.{IsWalkedOn}
use Rattle.flow_recover.proofs.WalkFacts.{walked_more}
use Rattle.flow_recover.proofs.walks.walk_on.Goals as goal

pub loop-at-preserved : goal.loop-at-preserved
loop-at-preserved c =
    let here = subst (λ (z : Option Node). IsWalkedOn c.args.o.now (Some c.args.n) c.args.walk.now c.loop-at.walk z) c.in-Some.is c.loop-at.invariant in
    walked_more c.args.o.now (Some c.args.n) c.args.walk.now c.loop-at.walk c.turn.new.walk c.in-Some.m c.in_ok-at.at here c.in_ok-at.ensures
