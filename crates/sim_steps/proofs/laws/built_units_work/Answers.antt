use Rattle.sim_steps.proofs.Units.{built_units_work}
use Rattle.sim_steps.proofs.laws.built_units_work.Goals as goal

pub returns : goal.returns
returns c = built_units_work
