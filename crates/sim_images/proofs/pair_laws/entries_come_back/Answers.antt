use Rattle.sim_images.proofs.EntriesAlike.{entries_back}
use Rattle.sim_images.proofs.pair_laws.entries_come_back.Goals as goal

pub returns : goal.returns
returns c = entries_back
