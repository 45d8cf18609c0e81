use Rattle.std.proofs.Common.{rules, Ok, Err}
use Rattle.std.proofs.lemmas.List.Sorted.{answers_always}
use Rattle.flow_recover.specs.Points.{place_of_point}
use Rattle.flow_recover.proofs.FlowPoints.{searched_point}
use Rattle.flow_recover.proofs.places.point_at.Goals as goal

pub returns-in-Ok : goal.returns-in-Ok
returns-in-Ok c =
    searched_point c.args.f.now c.points.result.now c.args.section c.args.offset c.requires c.points.ensures (Ok c.in-Ok.q) c.in-Ok.ensures.bound
    (c.in-Ok.ensures.position place_of_point (answers_always _ _ _ (λ f a r g called. search rules)))

pub returns-in-Err : goal.returns-in-Err
returns-in-Err c =
    searched_point c.args.f.now c.points.result.now c.args.section c.args.offset c.requires c.points.ensures (Err c.in-Err.field-0) c.in-Err.ensures.bound
    (c.in-Err.ensures.position place_of_point (answers_always _ _ _ (λ f a r g called. search rules)))
