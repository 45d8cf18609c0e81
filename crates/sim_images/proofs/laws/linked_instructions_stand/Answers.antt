use Rattle.sim_images.proofs.StandingLinked.{stands_linked}
use Rattle.sim_images.proofs.laws.linked_instructions_stand.Goals as goal

pub returns : goal.returns
returns c = stands_linked
