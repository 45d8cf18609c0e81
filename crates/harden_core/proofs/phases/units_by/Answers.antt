use Rattle.std.proofs.lemmas.Result.{IfErr-weaker}
use Rattle.point_units.specs.Scratch.{IsScratchDenial}
use Rattle.harden_core.specs.Denials.{IsHardenDenial}
use Rattle.harden_core.proofs.PhaseFacts.{scratch_denied}
use Rattle.harden_core.proofs.phases.units_by.Goals as goal

pub returns-clause-refused : goal.returns-clause-refused
returns-clause-refused c =
    IfErr-weaker c.units_of.result (IsScratchDenial c.args.f.now c.args.b.now) (IsHardenDenial c.args.o.now c.args.b.now c.args.copies)
    (scratch_denied c.args.o.now c.args.f.now c.args.b.now c.args.copies c.requires.flow c.requires.live.no_fault) c.units_of.ensures.refused
