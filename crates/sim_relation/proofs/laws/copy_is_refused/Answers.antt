use Rattle.sim_relation.proofs.CopyRefused.{refused}
use Rattle.sim_relation.proofs.laws.copy_is_refused.Goals as goal

pub returns : goal.returns
returns c = refused
