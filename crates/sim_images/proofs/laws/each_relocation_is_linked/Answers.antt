use Rattle.sim_images.proofs.EachLinked.{each_linked}
use Rattle.sim_images.proofs.laws.each_relocation_is_linked.Goals as goal

pub returns : goal.returns
returns c = each_linked
