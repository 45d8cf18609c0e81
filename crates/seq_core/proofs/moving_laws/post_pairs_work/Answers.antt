use Rattle.seq_core.proofs.Pairs.{post_pair_is_done}
use Rattle.seq_core.proofs.moving_laws.post_pairs_work.Goals as goal

pub returns : goal.returns
returns c = post_pair_is_done
