use Rattle.seq_core.proofs.Stacks.{down_is_done}
use Rattle.seq_core.proofs.moving_laws.lists_downwards_work.Goals as goal

pub returns : goal.returns
returns c = down_is_done
