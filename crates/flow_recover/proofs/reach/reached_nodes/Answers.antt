use Rattle.std.proofs.lemmas.Result.{IfOk-weaker}
use Rattle.flow_recover.proofs.WalkFacts.{nodes_are}
use Rattle.flow_recover.proofs.reach.reached_nodes.Goals as goal

pub returns : goal.returns
returns c =
    IfOk-weaker c.in_order.result _ _ (λ list e. nodes_are c.args.o.now c.walk_through.new.walk c.in_ok-walk_through.ensures.walk (λ n s. c.in_ok-walk_through.ensures.keeps n (c.begin.ensures.begun n s)) c.in_ok-walk_through.ensures.none list.items e c.in_order.ensures.ordered)
    c.in_order.ensures.items
