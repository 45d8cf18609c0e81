use Rattle.seq_core.proofs.Fields.{clear_is_done}
use Rattle.seq_core.proofs.class_laws.clears_in_place.Goals as goal

pub returns : goal.returns
returns c = clear_is_done
