use Rattle.seq_core.proofs.Denoted.{steps_work_once}
use Rattle.seq_core.proofs.laws.steps_work_once.Goals as goal

pub returns : goal.returns
returns c = steps_work_once
