use Rattle.sim_charts.proofs.OneCopy.{one_copy_is_refused}
use Rattle.sim_charts.proofs.laws.one_copy_is_refused.Goals as goal

pub returns : goal.returns
returns c = one_copy_is_refused
