use Rattle.seq_core.proofs.Denoted.{steps_work}
use Rattle.seq_core.proofs.laws.steps_work.Goals as goal

pub returns : goal.returns
returns c = steps_work
