use Rattle.sim_charts.proofs.Starts.{calls_start_alike}
use Rattle.sim_charts.proofs.laws.calls_start_alike.Goals as goal

pub returns : goal.returns
returns c = calls_start_alike
