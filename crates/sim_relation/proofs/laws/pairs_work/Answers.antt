use Rattle.sim_relation.proofs.ChartedWorks.{pairs_work}
use Rattle.sim_relation.proofs.laws.pairs_work.Goals as goal

pub returns : goal.returns
returns c = pairs_work
