use Rattle.flow_recover.proofs.GainFacts.{place_more}
use Rattle.emit_object.specs.TargetPlaces.{Gives}
use Rattle.emit_object.proofs.TargetFacts.{with_answer, with_none}
use Rattle.emit_object.proofs.targets.note_target.Goals as goal

pub returns-in_ok-insert-in-Some : goal.returns-in_ok-insert-in-Some
returns-in_ok-insert-in-Some c =
    with_answer (Gives c.args.o.now c.args.f.now c.args.r.now) c.in-Some.place c.args.places.now c.insert.new.self c.in-Some.ensures
    (place_more c.args.places.now c.insert.new.self c.in-Some.place.0 c.in-Some.place.1 c.in_ok-insert-in-Some.ensures.updates.0)

pub returns-in-None : goal.returns-in-None
returns-in-None c = with_none (Gives c.args.o.now c.args.f.now c.args.r.now) c.args.places.now c.in-None.ensures
