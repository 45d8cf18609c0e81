use Rattle.sim_relation.proofs.Refused.{kept}
use Rattle.sim_relation.proofs.laws.read_registers_are_kept.Goals as goal

pub returns : goal.returns
returns c = kept
