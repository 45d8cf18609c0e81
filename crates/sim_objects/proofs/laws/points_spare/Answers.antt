use Rattle.sim_objects.proofs.Living.{points_spare}
use Rattle.sim_objects.proofs.laws.points_spare.Goals as goal

pub returns : goal.returns
returns c = points_spare
