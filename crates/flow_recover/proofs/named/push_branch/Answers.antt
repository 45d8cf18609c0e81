use Rattle.flow_recover.proofs.NamedFacts.{branch_some, branch_none}
use Rattle.flow_recover.proofs.named.push_branch.Goals as goal

pub returns-in_ok-push : goal.returns-in_ok-push
returns-in_ok-push c =
    branch_some c.args.o.now c.args.r.now c.far_target_of.result c.args.claims.now.items c.push.new.self.items c.in-Some.t c.far_target_of.ensures c.in-Some.is c.in_ok-push.ensures.items

pub returns-in_default : goal.returns-in_default
returns-in_default c = branch_none c.args.o.now c.args.r.now c.far_target_of.result c.args.claims.now.items c.far_target_of.ensures c.in_default.is
