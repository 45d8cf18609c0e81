use Rattle.seq_core.proofs.Example.{adds_works}
use Rattle.seq_core.proofs.laws.an_addition_works.Goals as goal

pub returns : goal.returns
returns c = adds_works
