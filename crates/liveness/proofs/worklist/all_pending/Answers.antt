use Rattle.std.proofs.Common.{◌∙◌, below_more, arith}
use Rattle.liveness.proofs.PutFacts.{IsPut, put_waits, put_keeps, put_few}
use Rattle.liveness.proofs.worklist.all_pending.Goals as goal

pub loop-p-preserved : goal.loop-p-preserved
loop-p-preserved c =
    let old = c.loop-p.pending in
    let new = c.put-put.new.self in
    let put : IsPut old new c.loop-p.p c.put-put.result = record { waits = c.put-put.ensures.waits; waiting = c.put-put.ensures.waiting; size = c.put-put.ensures.size } in
    record {
      size = c.put-put.ensures.size ∙ c.loop-p.invariant.size;
      all = below_more _ _ (λ q low. put_keeps old new c.loop-p.p c.put-put.result put q (c.loop-p.invariant.all q low)) (put_waits old new c.loop-p.p c.put-put.result put);
      few = let a = put_few old new c.loop-p.p c.put-put.result put in let b = c.loop-p.invariant.few in omega arith;
    }
