use Rattle.seq_core.proofs.Doing.{steps_do}
use Rattle.seq_core.proofs.laws.steps_do.Goals as goal

pub returns : goal.returns
returns c = steps_do
