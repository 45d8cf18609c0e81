use Rattle.seq_core.proofs.Decoded.{idempotent_decodes}
use Rattle.seq_core.proofs.class_laws.idempotent_decodes_in_place.Goals as goal

pub returns : goal.returns
returns c = idempotent_decodes
