use Rattle.std.proofs.Common.{◌≡◌, ◌∙◌, ap}
use Rattle.liveness.specs.Sets.{LiveParts}
use Rattle.liveness.proofs.PointFacts.{read_there, edge_within, after_there}
use Rattle.liveness.proofs.sets.Live.after.Goals as goal

pub after_point-requires : goal.after_point-requires
after_point-requires c = λ q leads.
    let same : c.self.inside.sets.items ≡ c.args.self.now.sets = ap (λ (l : LiveParts). l.sets) c.self.view_is in
    edge_within c.args.f.now c.points.result.now c.args.self.now.sets c.self.inside.sets.items c.deref.result.now c.args.p q c.index-points-p.result c.requires.flow c.points.ensures c.requires.there c.index-points-p.is
    c.requires.sized same c.deref.ensures.value leads

pub returns : goal.returns
returns c = λ x there k.
    let same : c.self.inside.sets.items ≡ c.args.self.now.sets = ap (λ (l : LiveParts). l.sets) c.self.view_is in
    after_there c.args.f.now c.args.b.now c.args.self.now.sets c.deref.result.now c.args.p k c.index-points-p.result x c.after_point.result (c.deref.ensures.value ∙ same)
    (read_there c.args.f.now.points c.points.result.now c.args.p c.index-points-p.result c.points.ensures c.requires.there c.index-points-p.is) there c.after_point.ensures
