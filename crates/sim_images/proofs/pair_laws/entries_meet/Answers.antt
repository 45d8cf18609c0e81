use Rattle.sim_images.proofs.EntriesAlike.{entries_meet}
use Rattle.sim_images.proofs.pair_laws.entries_meet.Goals as goal

pub returns : goal.returns
returns c = entries_meet
