use Rattle.sim_images.proofs.ImageFacts.{code_inside}
use Rattle.sim_images.proofs.laws.code_lies_inside.Goals as goal

pub returns : goal.returns
returns c = code_inside
