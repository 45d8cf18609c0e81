use Rattle.std.proofs.Common.{◌≡◌, ◌+◌, ℕ, List, ◌∷◌, ◌++◌, sym, ap, ◌∙◌, subst, Option, length, length-append, drop, arith}
use Rattle.std.proofs.lemmas.List.{length_push}
use Rattle.index_links.specs.Orders.{UnitParts, IsBetween, walk}
use Rattle.index_links.proofs.OrderFacts.{between_as, before_small, after_small, by_walk, walk_is}
use Rattle.index_links.proofs.unit_chain.UnitChain.put_between.Goals as goal

pub write-requires : goal.write-requires
write-requires c = λ u e.
    let i = c.self.inside in
    let order = ap (λ (l : UnitParts). l.order) c.self.view_is in
    let b : IsBetween (walk i.afters.items i.first (length i.afters.items)) c.args.before c.args.after = subst (λ (l : List ℕ). IsBetween l c.args.before c.args.after) (sym order) c.requires.there in
    let low = before_small i.befores.items i.afters.items i.first i.last (walk i.afters.items i.first (length i.afters.items)) c.self.invariant.0 c.args.before c.args.after b.0 b.1 b.2 b.3 b.4 u e in
    let n : length c.deref_mut.result.now ≡ length i.afters.items + 1 = ap (λ (l : List (Option ℕ)). length l) (c.deref_mut.ensures.value ∙ c.push_reserved-2.ensures.items) ∙ length_push i.afters.items c.args.after in
    omega arith

pub write-requires-2 : goal.write-requires-2
write-requires-2 c = λ u e.
    let i = c.self.inside in
    let order = ap (λ (l : UnitParts). l.order) c.self.view_is in
    let b : IsBetween (walk i.afters.items i.first (length i.afters.items)) c.args.before c.args.after = subst (λ (l : List ℕ). IsBetween l c.args.before c.args.after) (sym order) c.requires.there in
    let low = after_small i.befores.items i.afters.items i.first i.last (walk i.afters.items i.first (length i.afters.items)) c.self.invariant.0 c.args.before c.args.after b.0 b.1 b.2 b.3 b.4 u e in
    let n : length c.deref_mut-2.result.now ≡ length i.befores.items + 1 = ap (λ (l : List (Option ℕ)). length l) (c.deref_mut-2.ensures.value ∙ c.push_reserved.ensures.items) ∙ length_push i.befores.items c.args.before in
    let same = c.self.invariant.0.paired in
    omega arith

pub invariant_of-self : goal.invariant_of-self
invariant_of-self c =
    let i = c.self.inside in
    let order = ap (λ (l : UnitParts). l.order) c.self.view_is in
    let spare = ap (λ (l : UnitParts). l.spare) c.self.view_is in
    let more = c.requires.room in
    let b : IsBetween (walk i.afters.items i.first (length i.afters.items)) c.args.before c.args.after = subst (λ (l : List ℕ). IsBetween l c.args.before c.args.after) (sym order) c.requires.there in
    let unit : c.len-unit.result ≡ length i.afters.items = c.len-unit.ensures ∙ i.afters.ok.0 in
    let new = between_as i.befores.items i.afters.items i.first i.last (walk i.afters.items i.first (length i.afters.items)) c.self.invariant.0 c.args.before c.args.after b.0 b.1 b.2 b.3 b.4
    c.push_reserved.new.self.items c.deref_mut-2.result.now c.write-2.new.links (drop (length c.write-2.new.links) c.push_reserved.new.self.items) c.push_reserved-2.new.self.items c.deref_mut.result.now c.write.new.links (drop (length c.write.new.links) c.push_reserved-2.new.self.items) c.end_with-self-inside.result c.end_with-self-inside-2.result c.len-unit.result c.push_reserved.new.self.len c.push_reserved-2.new.self.len
    unit c.push_reserved.ensures.items c.deref_mut-2.ensures.value c.write-2.ensures (sym c.deref_mut-2.ensures.len) c.push_reserved-2.ensures.items c.deref_mut.ensures.value c.write.ensures (sym c.deref_mut.ensures.len) c.end_with-self-inside.ensures c.end_with-self-inside-2.ensures in
    let paired = new.paired in
    let long = new.long in
    let was = c.self.invariant.0.long in
    let was_paired = c.self.invariant.0.paired in
    let parts : length (walk i.afters.items i.first (length i.afters.items)) ≡ length (b.0 ++ b.1) = ap (λ (l : List ℕ). length l) b.2 in
    let old_sum = length-append b.0 b.1 in
    let new_sum = length-append b.0 (c.len-unit.result ∷ b.1) in
    let r = c.self.invariant.1 in
    let t = c.self.invariant.2 in
    let small_r = r.small in
    let small_t = t.small in
    let room_r = r.room in
    let room_t = t.room in
    let cap_r = c.push_reserved.ensures.capacity in
    let cap_t = c.push_reserved-2.ensures.capacity in
    (by_walk _ _ _ _ _ new, record { small = omega arith; room = omega arith }, record { small = omega arith; room = omega arith })

pub returns-clause-order : goal.returns-clause-order
returns-clause-order c = λ front back e before after.
    let i = c.self.inside in
    let order = ap (λ (l : UnitParts). l.order) c.self.view_is in
    let unit : c.len-unit.result ≡ length i.afters.items = c.len-unit.ensures ∙ i.afters.ok.0 in
    let b : IsBetween (walk i.afters.items i.first (length i.afters.items)) c.args.before c.args.after = (front, back, order ∙ e, before, after) in
    let new = between_as i.befores.items i.afters.items i.first i.last (walk i.afters.items i.first (length i.afters.items)) c.self.invariant.0 c.args.before c.args.after b.0 b.1 b.2 b.3 b.4
    c.push_reserved.new.self.items c.deref_mut-2.result.now c.write-2.new.links (drop (length c.write-2.new.links) c.push_reserved.new.self.items) c.push_reserved-2.new.self.items c.deref_mut.result.now c.write.new.links (drop (length c.write.new.links) c.push_reserved-2.new.self.items) c.end_with-self-inside.result c.end_with-self-inside-2.result c.len-unit.result c.push_reserved.new.self.len c.push_reserved-2.new.self.len
    unit c.push_reserved.ensures.items c.deref_mut-2.ensures.value c.write-2.ensures (sym c.deref_mut-2.ensures.len) c.push_reserved-2.ensures.items c.deref_mut.ensures.value c.write.ensures (sym c.deref_mut.ensures.len) c.end_with-self-inside.ensures c.end_with-self-inside-2.ensures in
    walk_is _ _ _ _ _ new

pub returns-clause-long : goal.returns-clause-long
returns-clause-long c =
    let i = c.self.inside in
    let order = ap (λ (l : UnitParts). l.order) c.self.view_is in
    let b : IsBetween (walk i.afters.items i.first (length i.afters.items)) c.args.before c.args.after = subst (λ (l : List ℕ). IsBetween l c.args.before c.args.after) (sym order) c.requires.there in
    let unit : c.len-unit.result ≡ length i.afters.items = c.len-unit.ensures ∙ i.afters.ok.0 in
    let new = between_as i.befores.items i.afters.items i.first i.last (walk i.afters.items i.first (length i.afters.items)) c.self.invariant.0 c.args.before c.args.after b.0 b.1 b.2 b.3 b.4
    c.push_reserved.new.self.items c.deref_mut-2.result.now c.write-2.new.links (drop (length c.write-2.new.links) c.push_reserved.new.self.items) c.push_reserved-2.new.self.items c.deref_mut.result.now c.write.new.links (drop (length c.write.new.links) c.push_reserved-2.new.self.items) c.end_with-self-inside.result c.end_with-self-inside-2.result c.len-unit.result c.push_reserved.new.self.len c.push_reserved-2.new.self.len
    unit c.push_reserved.ensures.items c.deref_mut-2.ensures.value c.write-2.ensures (sym c.deref_mut-2.ensures.len) c.push_reserved-2.ensures.items c.deref_mut.ensures.value c.write.ensures (sym c.deref_mut.ensures.len) c.end_with-self-inside.ensures c.end_with-self-inside-2.ensures in
    let is = ap (λ (l : List ℕ). length l) (walk_is _ _ _ _ _ new) in
    let parts : length c.args.self.now.order ≡ length (b.0 ++ b.1) = ap (λ (l : List ℕ). length l) (sym order ∙ b.2) in
    let old_sum = length-append b.0 b.1 in
    let new_sum = length-append b.0 (c.len-unit.result ∷ b.1) in
    omega arith
