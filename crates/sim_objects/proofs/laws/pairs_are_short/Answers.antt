use Rattle.sim_objects.proofs.Growth.{pairs_are_short}
use Rattle.sim_objects.proofs.laws.pairs_are_short.Goals as goal

pub returns : goal.returns
returns c = pairs_are_short
