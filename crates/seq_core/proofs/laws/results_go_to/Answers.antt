use Rattle.seq_core.proofs.Sent.{goes_to}
use Rattle.seq_core.proofs.laws.results_go_to.Goals as goal

pub returns : goal.returns
returns c = goes_to
