use Rattle.guard_cli.proofs.ImageRoom.{code_in_room}
use Rattle.guard_cli.proofs.link.decide.Goals as goal

pub bytes-requires : goal.bytes-requires
bytes-requires c = code_in_room c.deref-2.result.now c.args.command.now.at c.in_ok-image.image c.in_ok-image.ensures.image
