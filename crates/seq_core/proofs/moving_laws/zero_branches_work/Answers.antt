use Rattle.seq_core.proofs.Calls.{zero_branch_is_done}
use Rattle.seq_core.proofs.moving_laws.zero_branches_work.Goals as goal

pub returns : goal.returns
returns c = zero_branch_is_done
