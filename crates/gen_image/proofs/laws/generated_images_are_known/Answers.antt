use Rattle.gen_image.proofs.Knowing.{known}
use Rattle.gen_image.proofs.laws.generated_images_are_known.Goals as goal

pub returns : goal.returns
returns c = known
