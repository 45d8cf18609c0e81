use Rattle.sim_objects.proofs.Points.{charts_have_points}
use Rattle.sim_objects.proofs.laws.charts_have_points.Goals as goal

pub returns : goal.returns
returns c = charts_have_points
