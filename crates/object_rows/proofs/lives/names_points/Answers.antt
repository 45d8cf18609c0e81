use Rattle.std.proofs.Common.{arith, length, refl}
use Rattle.liveness.proofs.PointFacts.{flow_names}
use Rattle.object_rows.proofs.lives.names_points.Goals as goal

pub returns : goal.returns
returns c = λ t.
    flow_names c.args.f.now c.points-n.result.now c.points.result.now c.entries.result.now (length c.points-n.result.now) c.points-n.ensures c.points.ensures c.entries.ensures refl (omega arith)
    (c.all_lead_below.ensures c.if-not-all_lead_below.false) (c.all_below.ensures t)
