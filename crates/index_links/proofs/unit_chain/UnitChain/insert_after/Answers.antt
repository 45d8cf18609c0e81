use Rattle.std.proofs.Common.{◌<◌, ◌∙◌, ◌++◌, ◌∷◌, [], None, refl, sym, subst, length, arith}
use Rattle.std.proofs.lemmas.Option.{slice_get_read}
use Rattle.index_links.specs.Orders.{UnitParts, IsOrder}
use Rattle.index_links.proofs.OrderFacts.{behind, after_at, last_push, at_end, at_unit_alone}
use Rattle.index_links.proofs.unit_chain.UnitChain.insert_after.Goals as goal

pub put_between-requires-clause-there : goal.put_between-requires-clause-there
put_between-requires-clause-there c =
    let i = c.self.inside in
    let is : IsOrder i.befores.items i.afters.items i.first i.last c.args.self.now.order = subst (λ (l : UnitParts). IsOrder i.befores.items i.afters.items i.first i.last l.order) c.self.view_is c.self.invariant.0 in
    let long = is.long in
    let there = c.requires.there in
    let low : c.args.at < length i.afters.items = omega arith in
    behind i.befores.items i.afters.items i.first i.last c.args.self.now.order is c.args.at c.index-next.result.now there (slice_get_read i.afters.items (length i.afters.items) c.args.at c.index-next.result.now refl low c.index-next.ensures)

pub returns-clause-order : goal.returns-clause-order
returns-clause-order c = λ front back e.
    let i = c.self.inside in
    let is : IsOrder i.befores.items i.afters.items i.first i.last c.args.self.now.order = subst (λ (l : UnitParts). IsOrder i.befores.items i.afters.items i.first i.last l.order) c.self.view_is c.self.invariant.0 in
    let long = is.long in
    let low : c.args.at < length i.afters.items = let there = c.requires.there in omega arith in
    let next = after_at i.befores.items i.afters.items i.first i.last c.args.self.now.order is front back c.args.at e c.index-next.result.now (slice_get_read i.afters.items (length i.afters.items) c.args.at c.index-next.result.now refl low c.index-next.ensures) in
    let made = c.put_between.ensures.order (front ++ c.args.at ∷ []) back (e ∙ sym (at_unit_alone front back c.args.at)) (sym (last_push None front c.args.at)) next in
    made ∙ at_end front back c.args.at c.put_between.result
