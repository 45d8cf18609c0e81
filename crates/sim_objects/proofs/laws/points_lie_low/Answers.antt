use Rattle.sim_objects.proofs.Apart.{points_lie_low}
use Rattle.sim_objects.proofs.laws.points_lie_low.Goals as goal

pub returns : goal.returns
returns c = points_lie_low
