use Rattle.sim_objects.proofs.Going.{points_go_on}
use Rattle.sim_objects.proofs.laws.points_go_on.Goals as goal

pub returns : goal.returns
returns c = points_go_on
