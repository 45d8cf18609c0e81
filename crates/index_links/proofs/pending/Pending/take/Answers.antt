use Rattle.std.proofs.Common.{ℕ, List, ap, subst, arith}
use Rattle.std.proofs.Common.{deque_capacity}
use Rattle.index_links.specs.Queues.{PendingParts, IsQueue}
use Rattle.index_links.proofs.QueueFacts.{oldest_small, oldest_once, left}
use Rattle.index_links.proofs.pending.Pending.take.Goals as goal

pub index_mut-requires : goal.index_mut-requires
index_mut-requires c =
    let i = c.self.inside in
    let queue = subst (λ (l : List ℕ). IsQueue l i.waits.items (deque_capacity i.queue)) c.in-Some.ensures.items c.self.invariant in
    let low = oldest_small c.in-Some.i c.pop_front-oldest.new.self.items i.waits.items _ queue in
    let len = i.waits.ok.0 in
    omega arith

pub invariant_of-self : goal.invariant_of-self
invariant_of-self c =
    let i = c.self.inside in
    let queue = subst (λ (l : List ℕ). IsQueue l i.waits.items (deque_capacity i.queue)) c.in-Some.ensures.items c.self.invariant in
    rw c.in-Some.ensures.capacity (left c.in-Some.i c.pop_front-oldest.new.self.items i.waits.items _ queue)

pub returns-in-Some-clause-small : goal.returns-in-Some-clause-small
returns-in-Some-clause-small c =
    let i = c.self.inside in
    let queue = subst (λ (l : List ℕ). IsQueue l i.waits.items (deque_capacity i.queue)) c.in-Some.ensures.items c.self.invariant in
    let low = oldest_small c.in-Some.i c.pop_front-oldest.new.self.items i.waits.items _ queue in
    let size = ap (λ (p : PendingParts). p.size) c.self.view_is in
    omega arith

pub returns-in-Some-clause-once : goal.returns-in-Some-clause-once
returns-in-Some-clause-once c =
    let i = c.self.inside in
    let queue = subst (λ (l : List ℕ). IsQueue l i.waits.items (deque_capacity i.queue)) c.in-Some.ensures.items c.self.invariant in
    oldest_once c.in-Some.i c.pop_front-oldest.new.self.items i.waits.items _ queue
