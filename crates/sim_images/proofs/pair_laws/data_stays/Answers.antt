use Rattle.sim_images.proofs.DataStay.{data_stays}
use Rattle.sim_images.proofs.pair_laws.data_stays.Goals as goal

pub returns : goal.returns
returns c = data_stays
