use Rattle.std.proofs.Common.{◌≡◌, ◌∙◌, List, ap, length, arith}
use Rattle.flow_recover.specs.declared.flows.Point.{Point}
use Rattle.liveness.proofs.WorkFacts.{work_first}
use Rattle.liveness.proofs.worklist.settled.Goals as goal

pub work-requires-clause-start : goal.work-requires-clause-start
work-requires-clause-start c =
    let n : length c.points.result.now ≡ length c.args.f.now.points = ap (λ (l : List Point). length l) c.points.ensures in
    work_first c.args.f.now c.args.b.now c.in_ok-sets.sets c.in_ok-pending.pending c.in_ok-sets.ensures.sized c.in_ok-sets.ensures.empty c.in_ok-sets.ensures.turns (c.in_ok-pending.ensures.size ∙ n)
    (λ p low. c.in_ok-pending.ensures.all p (omega (arith, n))) (let few = c.in_ok-pending.ensures.few in omega arith)
