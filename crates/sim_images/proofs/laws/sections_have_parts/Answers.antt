use Rattle.sim_images.proofs.EachLinked.{has_part}
use Rattle.sim_images.proofs.laws.sections_have_parts.Goals as goal

pub returns : goal.returns
returns c = has_part
