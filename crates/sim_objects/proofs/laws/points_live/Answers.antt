use Rattle.sim_objects.proofs.Living.{points_live}
use Rattle.sim_objects.proofs.laws.points_live.Goals as goal

pub returns : goal.returns
returns c = points_live
