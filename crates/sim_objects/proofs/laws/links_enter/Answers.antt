use Rattle.sim_objects.proofs.Entering.{links_enter}
use Rattle.sim_objects.proofs.laws.links_enter.Goals as goal

pub returns : goal.returns
returns c = links_enter
