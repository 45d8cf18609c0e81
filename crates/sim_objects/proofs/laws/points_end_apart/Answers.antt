use Rattle.sim_objects.proofs.Apart.{points_end_apart}
use Rattle.sim_objects.proofs.laws.points_end_apart.Goals as goal

pub returns : goal.returns
returns c = points_end_apart
