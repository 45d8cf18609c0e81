use Rattle.liveness.proofs.RecoveredFlows.{flow_names_points}
use Rattle.liveness.proofs.laws.recovered_flows_name_points.Goals as goal

pub returns : goal.returns
returns c = flow_names_points
