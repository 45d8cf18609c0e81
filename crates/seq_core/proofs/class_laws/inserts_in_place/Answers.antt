use Rattle.seq_core.proofs.Fields.{insert_is_done}
use Rattle.seq_core.proofs.class_laws.inserts_in_place.Goals as goal

pub returns : goal.returns
returns c = insert_is_done
