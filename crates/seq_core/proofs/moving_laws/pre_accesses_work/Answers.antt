use Rattle.seq_core.proofs.Back.{pre_access_is_done}
use Rattle.seq_core.proofs.moving_laws.pre_accesses_work.Goals as goal

pub returns : goal.returns
returns c = pre_access_is_done
