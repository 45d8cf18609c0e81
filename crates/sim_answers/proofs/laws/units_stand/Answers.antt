use Rattle.sim_answers.proofs.UnitsStand.{units_stand}
use Rattle.sim_answers.proofs.laws.units_stand.Goals as goal

pub returns : goal.returns
returns c = units_stand
