use Rattle.sim_objects.proofs.Beginning.{names_enter}
use Rattle.sim_objects.proofs.laws.names_enter.Goals as goal

pub returns : goal.returns
returns c = names_enter
