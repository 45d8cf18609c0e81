use Rattle.flow_recover.proofs.GainFacts.{place_more}
use Rattle.flow_recover.proofs.LiteralFacts.{load_from, with_place, without_place}
use Rattle.flow_recover.proofs.VisitFacts.{visit_instrs}
use Rattle.flow_recover.proofs.literals.note_load.Goals as goal

pub returns-in_ok-insert-in-Some-clause-loads : goal.returns-in_ok-insert-in-Some-clause-loads
returns-in_ok-insert-in-Some-clause-loads c =
    with_place c.args.o.now c.args.v.now.node c.in-Some.place c.args.places.now c.insert.new.self
    (load_from c.args.o.now c.args.v.now.node c.args.v.now.instr _ (visit_instrs c.args.o.now c.args.v.now c.requires) c.in-Some.ensures)
    (place_more c.args.places.now c.insert.new.self c.in-Some.place.0 c.in-Some.place.1 c.in_ok-insert-in-Some.ensures.updates.0)

pub returns-in-None-clause-loads : goal.returns-in-None-clause-loads
returns-in-None-clause-loads c = without_place c.args.o.now c.args.v.now.node c.args.places.now
    (load_from c.args.o.now c.args.v.now.node c.args.v.now.instr _ (visit_instrs c.args.o.now c.args.v.now c.requires) c.in-None.ensures)
