use Rattle.sim_images.proofs.NamesAlike.{names_meet}
use Rattle.sim_images.proofs.pair_laws.names_meet.Goals as goal

pub returns : goal.returns
returns c = names_meet
