use Rattle.sim_charts.proofs.Induction.{ends_alike}
use Rattle.sim_charts.proofs.laws.calls_end_alike.Goals as goal

pub returns : goal.returns
returns c = ends_alike
