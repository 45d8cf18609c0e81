use Rattle.seq_core.proofs.Single.{itself_carries}
use Rattle.seq_core.proofs.class_laws.itself_once.Goals as goal

pub returns : goal.returns
returns c = itself_carries
