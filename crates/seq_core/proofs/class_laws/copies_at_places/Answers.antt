use Rattle.seq_core.proofs.Placing.{placed_is_done}
use Rattle.seq_core.proofs.class_laws.copies_at_places.Goals as goal

pub returns : goal.returns
returns c = placed_is_done
