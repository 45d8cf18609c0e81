use Rattle.sim_answers.proofs.PointPlaces.{points_have_places}
use Rattle.sim_answers.proofs.laws.points_have_places.Goals as goal

pub returns : goal.returns
returns c = points_have_places
