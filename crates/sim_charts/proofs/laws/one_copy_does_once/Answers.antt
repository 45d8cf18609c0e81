use Rattle.sim_charts.proofs.OneCopy.{one_copy_does_once}
use Rattle.sim_charts.proofs.laws.one_copy_does_once.Goals as goal

pub returns : goal.returns
returns c = one_copy_does_once
