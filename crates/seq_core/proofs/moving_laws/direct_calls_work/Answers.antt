use Rattle.seq_core.proofs.Calls.{direct_call_is_done}
use Rattle.seq_core.proofs.moving_laws.direct_calls_work.Goals as goal

pub returns : goal.returns
returns c = direct_call_is_done
