use Rattle.seq_core.proofs.Runs.{legal_of}
use Rattle.seq_core.proofs.laws.schedules_are_legal.Goals as goal

pub returns : goal.returns
returns c = legal_of
