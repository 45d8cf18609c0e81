use Rattle.sim_images.proofs.HaveImages.{have_image}
use Rattle.sim_images.proofs.pair_laws.answers_have_images.Goals as goal

pub returns : goal.returns
returns c = have_image
