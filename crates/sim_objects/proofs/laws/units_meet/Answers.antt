use Rattle.sim_objects.proofs.Meeting.{units_meet}
use Rattle.sim_objects.proofs.laws.units_meet.Goals as goal

pub returns : goal.returns
returns c = units_meet
