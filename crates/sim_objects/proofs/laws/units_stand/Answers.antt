use Rattle.sim_objects.proofs.LinkedUnits.{units_stand}
use Rattle.sim_objects.proofs.laws.units_stand.Goals as goal

pub returns : goal.returns
returns c = units_stand
