use Rattle.seq_core.proofs.Stacks.{up_is_done}
use Rattle.seq_core.proofs.moving_laws.lists_upwards_work.Goals as goal

pub returns : goal.returns
returns c = up_is_done
