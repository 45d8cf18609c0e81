use Rattle.sim_images.proofs.ImageFacts.{parts_apart}
use Rattle.sim_images.proofs.laws.parts_lie_apart.Goals as goal

pub returns : goal.returns
returns c = parts_apart
