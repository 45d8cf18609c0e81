use Rattle.make_run.proofs.Refusals.{form_always_linked}
use Rattle.make_run.proofs.phases.hard_image.Goals as goal

pub image_of-requires-clause-linked : goal.image_of-requires-clause-linked
image_of-requires-clause-linked c =
    form_always_linked c.args.o.now c.args.h.now c.args.plain.now c.requires.generated c.sound.ensures c.requires.made.hardening c.is_hardened.ensures c.requires.image
