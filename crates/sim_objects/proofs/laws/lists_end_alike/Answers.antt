use Rattle.sim_objects.proofs.Hardening.{lists_end_alike}
use Rattle.sim_objects.proofs.laws.lists_end_alike.Goals as goal

pub returns : goal.returns
returns c = lists_end_alike
