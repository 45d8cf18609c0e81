use Rattle.seq_core.proofs.Once.{sequences_work_once}
use Rattle.seq_core.proofs.laws.sequences_work_once.Goals as goal

pub returns : goal.returns
returns c = sequences_work_once
