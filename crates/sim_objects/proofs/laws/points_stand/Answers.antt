use Rattle.sim_objects.proofs.Points.{points_stand}
use Rattle.sim_objects.proofs.laws.points_stand.Goals as goal

pub returns : goal.returns
returns c = points_stand
