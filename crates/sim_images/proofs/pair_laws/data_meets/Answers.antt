use Rattle.sim_images.proofs.DataMeet.{data_meets}
use Rattle.sim_images.proofs.pair_laws.data_meets.Goals as goal

pub returns : goal.returns
returns c = data_meets
