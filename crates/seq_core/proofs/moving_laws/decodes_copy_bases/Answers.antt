use Rattle.seq_core.proofs.CopiedDecodes.{base_copies_decode}
use Rattle.seq_core.proofs.moving_laws.decodes_copy_bases.Goals as goal

pub returns : goal.returns
returns c = base_copies_decode
