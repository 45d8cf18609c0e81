use Rattle.std.proofs.Common.{subst, arith}
use Rattle.index_links.specs.Orders.{UnitParts, IsOrder}
use Rattle.index_links.proofs.unit_chain.UnitChain.first.Goals as goal

pub returns-clause-once : goal.returns-clause-once
returns-clause-once c = λ u low.
    let i = c.self.inside in
    let is : IsOrder i.befores.items i.afters.items i.first i.last c.args.self.now.order = subst (λ (l : UnitParts). IsOrder i.befores.items i.afters.items i.first i.last l.order) c.self.view_is c.self.invariant.0 in
    let long = is.long in
    is.once u (omega arith)
