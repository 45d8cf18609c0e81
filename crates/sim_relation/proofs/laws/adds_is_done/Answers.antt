use Rattle.sim_relation.proofs.AddsDone.{adds_done}
use Rattle.sim_relation.proofs.laws.adds_is_done.Goals as goal

pub returns : goal.returns
returns c = adds_done
