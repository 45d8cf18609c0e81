use Rattle.sim_objects.proofs.Working.{units_work}
use Rattle.sim_objects.proofs.laws.units_work.Goals as goal

pub returns : goal.returns
returns c = units_work
