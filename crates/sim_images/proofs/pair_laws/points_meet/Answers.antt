use Rattle.sim_images.proofs.PointsMeet.{points_meet}
use Rattle.sim_images.proofs.pair_laws.points_meet.Goals as goal

pub returns : goal.returns
returns c = points_meet
