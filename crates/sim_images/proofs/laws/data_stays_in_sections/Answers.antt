use Rattle.sim_images.proofs.ImageFacts.{data_as_is}
use Rattle.sim_images.proofs.laws.data_stays_in_sections.Goals as goal

pub returns : goal.returns
returns c = data_as_is
