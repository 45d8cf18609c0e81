use Rattle.sim_charts.proofs.Induction.{stops_alike}
use Rattle.sim_charts.proofs.laws.traps_stop_alike.Goals as goal

pub returns : goal.returns
returns c = stops_alike
