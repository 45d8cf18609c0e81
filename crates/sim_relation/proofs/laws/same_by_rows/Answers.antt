use Rattle.sim_relation.proofs.SameStates.{same_by_rows}
use Rattle.sim_relation.proofs.laws.same_by_rows.Goals as goal

pub returns : goal.returns
returns c = same_by_rows
