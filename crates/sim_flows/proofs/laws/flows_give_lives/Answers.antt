use Rattle.sim_flows.proofs.Living.{flows_give_lives}
use Rattle.sim_flows.proofs.laws.flows_give_lives.Goals as goal

pub returns : goal.returns
returns c = flows_give_lives
