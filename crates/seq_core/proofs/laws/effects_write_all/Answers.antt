use Rattle.seq_core.proofs.Covered.{writes_all}
use Rattle.seq_core.proofs.laws.effects_write_all.Goals as goal

pub returns : goal.returns
returns c = writes_all
