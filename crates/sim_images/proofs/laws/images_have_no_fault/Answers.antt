use Rattle.sim_images.proofs.ImageFacts.{not_both}
use Rattle.sim_images.proofs.laws.images_have_no_fault.Goals as goal

pub returns : goal.returns
returns c = not_both
