use Rattle.seq_core.proofs.Single.{settled_carries}
use Rattle.seq_core.proofs.class_laws.settled_once.Goals as goal

pub returns : goal.returns
returns c = settled_carries
