use Rattle.seq_core.proofs.Twice.{twice_is_done}
use Rattle.seq_core.proofs.class_laws.twice_in_place.Goals as goal

pub returns : goal.returns
returns c = twice_is_done
