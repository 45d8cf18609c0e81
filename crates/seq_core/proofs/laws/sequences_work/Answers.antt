use Rattle.seq_core.proofs.Law.{sequences_work}
use Rattle.seq_core.proofs.laws.sequences_work.Goals as goal

pub returns : goal.returns
returns c = sequences_work
