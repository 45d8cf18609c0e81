use Rattle.std.proofs.Common.{[], refl, sym, subst, append-nil}
use Rattle.index_links.specs.Orders.{UnitParts, IsOrder}
use Rattle.index_links.proofs.OrderFacts.{behind_all, last_of_order}
use Rattle.index_links.proofs.unit_chain.UnitChain.push_back.Goals as goal

pub put_between-requires-clause-there : goal.put_between-requires-clause-there
put_between-requires-clause-there c =
    let i = c.self.inside in
    let is : IsOrder i.befores.items i.afters.items i.first i.last c.args.self.now.order = subst (λ (l : UnitParts). IsOrder i.befores.items i.afters.items i.first i.last l.order) c.self.view_is c.self.invariant.0 in
    behind_all i.befores.items i.afters.items i.first i.last c.args.self.now.order is

pub returns-clause-order : goal.returns-clause-order
returns-clause-order c =
    let i = c.self.inside in
    let is : IsOrder i.befores.items i.afters.items i.first i.last c.args.self.now.order = subst (λ (l : UnitParts). IsOrder i.befores.items i.afters.items i.first i.last l.order) c.self.view_is c.self.invariant.0 in
    c.put_between.ensures.order c.args.self.now.order [] (sym (append-nil c.args.self.now.order)) (last_of_order i.befores.items i.afters.items i.first i.last c.args.self.now.order is) refl
