use Rattle.seq_core.proofs.Halves.{half_is_done}
use Rattle.seq_core.proofs.class_laws.halves_in_place.Goals as goal

pub returns : goal.returns
returns c = half_is_done
