use Rattle.sim_images.proofs.OneImage.{one_image}
use Rattle.sim_images.proofs.laws.objects_have_one_image.Goals as goal

pub returns : goal.returns
returns c = one_image
