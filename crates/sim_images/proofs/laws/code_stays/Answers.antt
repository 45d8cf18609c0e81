use Rattle.sim_images.proofs.ImageFacts.{code_as_is}
use Rattle.sim_images.proofs.laws.code_stays.Goals as goal

pub returns : goal.returns
returns c = code_as_is
