use Rattle.sim_images.proofs.ImageFacts.{data_inside}
use Rattle.sim_images.proofs.laws.data_lies_inside.Goals as goal

pub returns : goal.returns
returns c = data_inside
