use Rattle.flat_link.proofs.Existing.{lists_have_images}
use Rattle.flat_link.proofs.laws.lists_have_images.Goals as goal

pub returns : goal.returns
returns c = lists_have_images
