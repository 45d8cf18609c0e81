use Rattle.seq_core.proofs.Back.{post_access_is_done}
use Rattle.seq_core.proofs.moving_laws.post_accesses_work.Goals as goal

pub returns : goal.returns
returns c = post_access_is_done
