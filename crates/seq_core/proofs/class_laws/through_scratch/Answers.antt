use Rattle.seq_core.proofs.Through.{through_is_done}
use Rattle.seq_core.proofs.class_laws.through_scratch.Goals as goal

pub returns : goal.returns
returns c = through_is_done
