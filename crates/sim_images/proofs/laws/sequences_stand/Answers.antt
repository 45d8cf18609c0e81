use Rattle.sim_images.proofs.Sequences.{sequence_stands}
use Rattle.sim_images.proofs.laws.sequences_stand.Goals as goal

pub returns : goal.returns
returns c = sequence_stands
