use Rattle.seq_core.proofs.Fields.{insert_self_is_done}
use Rattle.seq_core.proofs.class_laws.inserts_through_scratch.Goals as goal

pub returns : goal.returns
returns c = insert_self_is_done
