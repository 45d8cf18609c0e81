use Rattle.seq_core.proofs.Calls.{register_call_is_done}
use Rattle.seq_core.proofs.moving_laws.register_calls_work.Goals as goal

pub returns : goal.returns
returns c = register_call_is_done
