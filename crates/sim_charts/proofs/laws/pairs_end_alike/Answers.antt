use Rattle.sim_charts.proofs.Induction.{pairs_end_alike}
use Rattle.sim_charts.proofs.laws.pairs_end_alike.Goals as goal

pub returns : goal.returns
returns c = pairs_end_alike
