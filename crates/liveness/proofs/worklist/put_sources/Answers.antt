use Rattle.std.proofs.Common.{ℕ, Option, subst}
use Rattle.liveness.proofs.PutFacts.{IsPutting, IsPut, putting_first, putting_more, all_put}
use Rattle.liveness.proofs.worklist.put_sources.Goals as goal

pub loop-edge-init : goal.loop-edge-init
loop-edge-init c = putting_first c.args.edges.now.edges c.args.p c.args.pending.now c.first_in-edge.result c.first_in-edge.ensures

pub loop-edge-preserved : goal.loop-edge-preserved
loop-edge-preserved c =
    let put : IsPut c.loop-edge.pending c.put-put.new.self c.source.result c.put-put.result = record { waits = c.put-put.ensures.waits; waiting = c.put-put.ensures.waiting; size = c.put-put.ensures.size } in
    let here = subst (λ (o : Option ℕ). IsPutting c.args.edges.now.edges c.args.p c.args.pending.now c.loop-edge.pending o) c.in-Some.is c.loop-edge.invariant in
    putting_more c.args.edges.now.edges c.args.p c.args.pending.now c.loop-edge.pending c.put-put.new.self c.in-Some.e c.source.result c.next_in-edge.result c.put-put.result here c.source.ensures.source put c.next_in-edge.ensures

pub returns-clause-put : goal.returns-clause-put
returns-clause-put c = λ x there target.
    let done = subst (λ (o : Option ℕ). IsPutting c.args.edges.now.edges c.args.p c.args.pending.now c.loop-edge.pending o) c.in_default.is c.loop-edge.invariant in
    all_put c.args.edges.now.edges c.args.p c.args.pending.now c.loop-edge.pending done x there target
