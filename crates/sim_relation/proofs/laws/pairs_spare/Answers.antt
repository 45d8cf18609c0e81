use Rattle.sim_relation.proofs.Spared.{pairs_spare}
use Rattle.sim_relation.proofs.laws.pairs_spare.Goals as goal

pub returns : goal.returns
returns c = pairs_spare
