use Rattle.seq_core.proofs.Pairs.{pre_pair_is_done}
use Rattle.seq_core.proofs.moving_laws.pre_pairs_work.Goals as goal

pub returns : goal.returns
returns c = pre_pair_is_done
