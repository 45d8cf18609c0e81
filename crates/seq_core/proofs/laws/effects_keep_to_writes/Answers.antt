use Rattle.seq_core.proofs.Written.{writes}
use Rattle.seq_core.proofs.laws.effects_keep_to_writes.Goals as goal

pub returns : goal.returns
returns c = writes
