use Rattle.sim_images.proofs.Standing.{stands_as_is}
use Rattle.sim_images.proofs.laws.plain_instructions_stand.Goals as goal

pub returns : goal.returns
returns c = stands_as_is
