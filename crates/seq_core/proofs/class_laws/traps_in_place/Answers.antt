use Rattle.seq_core.proofs.Calls.{trap_is_done}
use Rattle.seq_core.proofs.class_laws.traps_in_place.Goals as goal

pub returns : goal.returns
returns c = trap_is_done
