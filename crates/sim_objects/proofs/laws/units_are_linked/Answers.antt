use Rattle.sim_objects.proofs.Together.{units_are_linked}
use Rattle.sim_objects.proofs.laws.units_are_linked.Goals as goal

pub returns : goal.returns
returns c = units_are_linked
