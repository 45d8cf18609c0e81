use Rattle.sim_objects.proofs.Going.{pairs_are_linked}
use Rattle.sim_objects.proofs.laws.pairs_are_linked.Goals as goal

pub returns : goal.returns
returns c = pairs_are_linked
