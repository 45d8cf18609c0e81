use Rattle.seq_core.proofs.Sums.{long_sum_is_done}
use Rattle.seq_core.proofs.moving_laws.long_sums_work.Goals as goal

pub returns : goal.returns
returns c = long_sum_is_done
