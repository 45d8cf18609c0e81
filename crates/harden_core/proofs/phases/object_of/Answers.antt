use Rattle.harden_core.proofs.phases.object_of.Goals as goal

pub emit-requires-clause-can : goal.emit-requires-clause-can
emit-requires-clause-can c =
    (c.layouts_can_be_emitted.ensures c.args.o.now c.args.f.now c.args.b.now c.args.copies c.args.units.now c.args.l.now c.sound.ensures c.requires.within c.requires.flow c.requires.least c.requires.most c.requires.units c.requires.layout).0

pub returns-clause-same : goal.returns-clause-same
returns-clause-same c =
    (c.layouts_can_be_emitted.ensures c.args.o.now c.args.f.now c.args.b.now c.args.copies c.args.units.now c.args.l.now c.sound.ensures c.requires.within c.requires.flow c.requires.least c.requires.most c.requires.units c.requires.layout).1

pub returns-clause-can : goal.returns-clause-can
returns-clause-can c =
    (c.layouts_can_be_emitted.ensures c.args.o.now c.args.f.now c.args.b.now c.args.copies c.args.units.now c.args.l.now c.sound.ensures c.requires.within c.requires.flow c.requires.least c.requires.most c.requires.units c.requires.layout).0
