use Rattle.sim_flows.proofs.Meeting.{flows_meet}
use Rattle.sim_flows.proofs.laws.flows_meet.Goals as goal

pub returns : goal.returns
returns c = flows_meet
