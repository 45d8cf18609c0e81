use Rattle.liveness.proofs.ReadFacts.{reads_member}
use Rattle.liveness.proofs.instructions.reads_members.Goals as goal

pub returns : goal.returns
returns c = reads_member c.args.i.now c.reads_registers.ensures
