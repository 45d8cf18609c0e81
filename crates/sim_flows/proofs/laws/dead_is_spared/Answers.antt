use Rattle.sim_flows.proofs.Living.{dead_is_spared}
use Rattle.sim_flows.proofs.laws.dead_is_spared.Goals as goal

pub returns : goal.returns
returns c = dead_is_spared
