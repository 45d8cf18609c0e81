use Rattle.seq_core.proofs.Sent.{low_goes_to}
use Rattle.seq_core.proofs.laws.low_results_go_to.Goals as goal

pub returns : goal.returns
returns c = low_goes_to
