use Rattle.std.proofs.Common.{◌<◌, refl, subst, length, arith}
use Rattle.std.proofs.lemmas.Option.{slice_get_read}
use Rattle.index_links.specs.Orders.{UnitParts, IsOrder}
use Rattle.index_links.proofs.OrderFacts.{before_at}
use Rattle.index_links.proofs.unit_chain.UnitChain.before.Goals as goal

pub returns : goal.returns
returns c = λ front back e.
    let i = c.self.inside in
    let is : IsOrder i.befores.items i.afters.items i.first i.last c.args.self.now.order = subst (λ (l : UnitParts). IsOrder i.befores.items i.afters.items i.first i.last l.order) c.self.view_is c.self.invariant.0 in
    let long = is.long in
    let paired = is.paired in
    let low : c.args.at < length i.befores.items = let there = c.requires in omega arith in
    before_at i.befores.items i.afters.items i.first i.last c.args.self.now.order is front back c.args.at e c.index.result.now (slice_get_read i.befores.items (length i.befores.items) c.args.at c.index.result.now refl low c.index.ensures)
