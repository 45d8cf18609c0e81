use Rattle.std.proofs.Common.{◌≡◌, ◌<◌, ◌∙◌, Bool, Some, sym, ap, subst, refl, length, arith}
use Rattle.std.specs.Prelude.{slice_get, Contains}
use Rattle.std.proofs.lemmas.Bool.{true≢false}
use Rattle.std.proofs.lemmas.Option.{slice_get_read}
use Rattle.index_links.specs.Queues.{PendingParts}
use Rattle.index_links.proofs.QueueFacts.{waits_in, waits_not, room_for, entered}
use Rattle.index_links.proofs.pending.Pending.put.Goals as goal

pub returns-then-index-clause-waits : goal.returns-then-index-clause-waits
returns-then-index-clause-waits c =
    let i = c.self.inside in
    let size = ap (λ (p : PendingParts). p.size) c.self.view_is in
    let low : c.args.i < length i.waits.items = let there = c.requires in omega arith in
    let at : slice_get i.waits.items c.args.i ≡ Some c.index.result.now = slice_get_read i.waits.items (length i.waits.items) c.args.i c.index.result.now refl low c.index.ensures in
    let waits = waits_in i.queue.items i.waits.items _ c.self.invariant c.args.i (at ∙ ap (λ (b : Bool). Some b) c.if-index.true) in
    let old : Contains c.args.self.now.waiting c.args.i = subst (λ (p : PendingParts). Contains p.waiting c.args.i) c.self.view_is waits in
    (λ e. old, λ h. refl)

pub push_back_reserved-requires : goal.push_back_reserved-requires
push_back_reserved-requires c =
    let i = c.self.inside in
    let size = ap (λ (p : PendingParts). p.size) c.self.view_is in
    let low : c.args.i < length i.waits.items = let there = c.requires in omega arith in
    let at : slice_get i.waits.items c.args.i ≡ Some c.index.result.now = slice_get_read i.waits.items (length i.waits.items) c.args.i c.index.result.now refl low c.index.ensures in
    let room = room_for i.queue.items i.waits.items _ c.self.invariant c.args.i (at ∙ ap (λ (b : Bool). Some b) c.if-index.false) in
    let len = i.queue.ok.0 in
    omega arith

pub invariant_of-self : goal.invariant_of-self
invariant_of-self c =
    let i = c.self.inside in
    let size = ap (λ (p : PendingParts). p.size) c.self.view_is in
    let low : c.args.i < length i.waits.items = let there = c.requires in omega arith in
    let at : slice_get i.waits.items c.args.i ≡ Some c.index.result.now = slice_get_read i.waits.items (length i.waits.items) c.args.i c.index.result.now refl low c.index.ensures in
    rw (c.push_back_reserved.ensures.items, c.push_back_reserved.ensures.capacity)
    (entered i.queue.items i.waits.items _ c.self.invariant c.args.i (at ∙ ap (λ (b : Bool). Some b) c.if-index.false))

pub returns-clause-waits : goal.returns-clause-waits
returns-clause-waits c =
    let i = c.self.inside in
    let size = ap (λ (p : PendingParts). p.size) c.self.view_is in
    let low : c.args.i < length i.waits.items = let there = c.requires in omega arith in
    let at : slice_get i.waits.items c.args.i ≡ Some c.index.result.now = slice_get_read i.waits.items (length i.waits.items) c.args.i c.index.result.now refl low c.index.ensures in
    (λ e. absurd (true≢false e), λ h. absurd (waits_not i.queue.items i.waits.items _ c.self.invariant c.args.i (at ∙ ap (λ (b : Bool). Some b) c.if-index.false) (subst (λ (p : PendingParts). Contains p.waiting c.args.i) (sym c.self.view_is) h)))
