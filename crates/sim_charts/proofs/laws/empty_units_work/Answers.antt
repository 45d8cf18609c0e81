use Rattle.sim_charts.proofs.ItPoints.{empty_units_work}
use Rattle.sim_charts.proofs.laws.empty_units_work.Goals as goal

pub returns : goal.returns
returns c = empty_units_work
