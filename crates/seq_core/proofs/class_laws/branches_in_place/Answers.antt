use Rattle.seq_core.proofs.Calls.{branch_is_done}
use Rattle.seq_core.proofs.class_laws.branches_in_place.Goals as goal

pub returns : goal.returns
returns c = branch_is_done
