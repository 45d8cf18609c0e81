use Rattle.sim_relation.proofs.Refused.{not_done}
use Rattle.sim_relation.proofs.laws.each_copy_is_linked.Goals as goal

pub returns : goal.returns
returns c = not_done
