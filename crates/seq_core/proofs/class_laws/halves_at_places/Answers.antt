use Rattle.seq_core.proofs.Halves.{half_placed_is_done}
use Rattle.seq_core.proofs.class_laws.halves_at_places.Goals as goal

pub returns : goal.returns
returns c = half_placed_is_done
