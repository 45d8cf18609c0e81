use Rattle.seq_core.proofs.Calls.{link_call_is_done}
use Rattle.seq_core.proofs.moving_laws.link_calls_work.Goals as goal

pub returns : goal.returns
returns c = link_call_is_done
