use Rattle.seq_core.proofs.Placing.{literal_placed_is_done}
use Rattle.seq_core.proofs.class_laws.literals_at_places.Goals as goal

pub returns : goal.returns
returns c = literal_placed_is_done
