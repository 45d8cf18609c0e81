use Rattle.sim_relation.proofs.Living.{accepted_live}
use Rattle.sim_relation.proofs.laws.accepted_live.Goals as goal

pub returns : goal.returns
returns c = accepted_live
