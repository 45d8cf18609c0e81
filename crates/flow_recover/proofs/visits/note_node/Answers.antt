use Rattle.std.proofs.Common.{◌++◌, ◌∷◌, [], refl, ap, ◌∙◌}
use Rattle.code_ranges.specs.Spots.{spot_of}
use Rattle.flow_recover.specs.Visits.Notes.{good, bad}
use Rattle.flow_recover.proofs.visits.note_node.Goals as goal

pub returns-in_ok-push-in-Ok : goal.returns-in_ok-push-in-Ok
returns-in_ok-push-in-Ok c = good c.visit_of.result c.visit_of.ensures c.in_ok-push-in-Ok.ensures.items refl

pub returns-in_ok-push-in-Err : goal.returns-in_ok-push-in-Err
returns-in_ok-push-in-Err c = bad c.in-Err.b c.in-Err.ensures refl (c.in_ok-push-in-Err.ensures.items
    ∙ ap (λ s. c.args.spots.now.items ++ s ∷ []) (c.spot_of.ensures ∙ ap (λ r. spot_of r c.args.n.section c.args.n.offset) c.refusal_of.ensures))
