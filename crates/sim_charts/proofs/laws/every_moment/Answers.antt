use Rattle.sim_charts.proofs.Induction.{every_moment}
use Rattle.sim_charts.proofs.laws.every_moment.Goals as goal

pub returns : goal.returns
returns c = every_moment
