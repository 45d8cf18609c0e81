use Rattle.seq_core.proofs.Returns.{pop_return_is_done}
use Rattle.seq_core.proofs.moving_laws.pops_into_pc_work.Goals as goal

pub returns : goal.returns
returns c = pop_return_is_done
