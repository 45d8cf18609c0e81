use Rattle.sim_steps.proofs.Straight.{ordinary_steps}
use Rattle.sim_steps.proofs.laws.ordinary_steps_are_alike.Goals as goal

pub returns : goal.returns
returns c = ordinary_steps
