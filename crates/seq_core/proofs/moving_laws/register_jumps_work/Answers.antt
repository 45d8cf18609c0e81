use Rattle.seq_core.proofs.Calls.{register_jump_is_done}
use Rattle.seq_core.proofs.moving_laws.register_jumps_work.Goals as goal

pub returns : goal.returns
returns c = register_jump_is_done
