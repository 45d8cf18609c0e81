use Rattle.sim_objects.proofs.Harden.{lists_harden}
use Rattle.sim_objects.proofs.laws.lists_harden.Goals as goal

pub returns : goal.returns
returns c = lists_harden
