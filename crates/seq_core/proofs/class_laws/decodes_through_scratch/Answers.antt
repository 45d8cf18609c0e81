use Rattle.seq_core.proofs.Decoded.{through_decodes}
use Rattle.seq_core.proofs.class_laws.decodes_through_scratch.Goals as goal

pub returns : goal.returns
returns c = through_decodes
