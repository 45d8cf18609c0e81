use Rattle.std.proofs.Common.{subst}
use Rattle.flat_link.specs.Misplaced.{IsFirstMisplaced}
use Rattle.flat_link.proofs.RefusalFacts.{misplaced_is}
use Rattle.flat_link.proofs.linker.link.Goals as goal

pub returns-in-Some-clause-refused : goal.returns-in-Some-clause-refused
returns-in-Some-clause-refused c =
    let objects = c.args.objects.now in
    misplaced_is objects c.args.at.now c.sound.ensures c.in-Some.spot (subst (IsFirstMisplaced objects) c.in-Some.is c.in_ok-spot.ensures)
