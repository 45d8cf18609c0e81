use Rattle.sim_objects.proofs.Following.{units_follow}
use Rattle.sim_objects.proofs.laws.units_follow.Goals as goal

pub returns : goal.returns
returns c = units_follow
