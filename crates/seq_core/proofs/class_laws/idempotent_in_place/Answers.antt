use Rattle.seq_core.proofs.InPlace.{in_place}
use Rattle.seq_core.proofs.class_laws.idempotent_in_place.Goals as goal

pub returns : goal.returns
returns c = in_place
