use Rattle.sim_objects.proofs.Exits.{nothing_at_exit}
use Rattle.sim_objects.proofs.laws.nothing_at_exit.Goals as goal

pub returns : goal.returns
returns c = nothing_at_exit
