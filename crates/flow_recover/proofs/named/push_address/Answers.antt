use Rattle.flow_recover.proofs.NamedFacts.{address_some, address_none}
use Rattle.flow_recover.proofs.named.push_address.Goals as goal

pub returns-in_ok-push : goal.returns-in_ok-push
returns-in_ok-push c =
    address_some c.args.o.now c.args.r.now c.reference_of.result c.args.claims.now.items c.push.new.self.items c.in-Some.a c.even.result c.reference_of.ensures c.in-Some.is c.even.ensures c.in_ok-push.ensures.items

pub returns-in_default : goal.returns-in_default
returns-in_default c = address_none c.args.o.now c.args.r.now c.reference_of.result c.args.claims.now.items c.reference_of.ensures c.in_default.is
