use Rattle.seq_core.proofs.Seen.{depends}
use Rattle.seq_core.proofs.laws.effects_depend_on_reads.Goals as goal

pub returns : goal.returns
returns c = depends
