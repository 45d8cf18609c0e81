use Rattle.sim_images.proofs.LinksMeet.{values_meet}
use Rattle.sim_images.proofs.pair_laws.values_meet.Goals as goal

pub returns : goal.returns
returns c = values_meet
