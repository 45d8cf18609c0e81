use Rattle.std.proofs.Common.{◌≡◌, ◌<◌, Some, List, ap, length, arith}
use Rattle.std.specs.Prelude.{slice_get}
use Rattle.flow_recover.specs.declared.flows.Point.{Point}
use Rattle.liveness.proofs.PointFacts.{read_there}
use Rattle.liveness.proofs.edges.edges_of.Goals as goal

pub add_edges-requires-clause-targets : goal.add_edges-requires-clause-targets
add_edges-requires-clause-targets c = λ q leads.
    let n : length c.points-x-items.result.now ≡ length c.args.f.now.points = ap (λ (l : List Point). length l) c.points-x-items.ensures in
    let low : c.loop-p.p < length c.args.f.now.points = omega arith in
    let there : slice_get c.args.f.now.points c.loop-p.p ≡ Some c.x-item.result = read_there c.args.f.now.points c.points-x-items.result.now c.loop-p.p c.x-item.result c.points-x-items.ensures low c.x-item.is in
    let inside = c.requires.edges c.loop-p.p q c.x-item.result there leads in
    let points = c.loop-p.invariant.points in
    omega arith
