use Rattle.sim_flows.proofs.Units.{flows_give_units}
use Rattle.sim_flows.proofs.laws.flows_give_units.Goals as goal

pub returns : goal.returns
returns c = flows_give_units
