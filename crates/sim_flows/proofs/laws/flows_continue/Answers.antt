use Rattle.sim_flows.proofs.Continuing.{flows_continue}
use Rattle.sim_flows.proofs.laws.flows_continue.Goals as goal

pub returns : goal.returns
returns c = flows_continue
