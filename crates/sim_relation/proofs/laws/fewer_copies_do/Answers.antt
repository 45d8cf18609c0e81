use Rattle.sim_relation.proofs.Copies.{fewer_do}
use Rattle.sim_relation.proofs.laws.fewer_copies_do.Goals as goal

pub returns : goal.returns
returns c = fewer_do
