use Rattle.seq_core.proofs.Copied.{base_copy_pair_is_done}
use Rattle.seq_core.proofs.moving_laws.base_copies_of_pairs_work.Goals as goal

pub returns : goal.returns
returns c = base_copy_pair_is_done
