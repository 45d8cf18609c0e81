use Rattle.sim_objects.proofs.Skipping.{units_keep_out}
use Rattle.sim_objects.proofs.laws.units_keep_out.Goals as goal

pub returns : goal.returns
returns c = units_keep_out
