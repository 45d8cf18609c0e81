use Rattle.sim_relation.proofs.FirstPaired.{first_row}
use Rattle.sim_relation.proofs.laws.first_row_is_paired.Goals as goal

pub returns : goal.returns
returns c = first_row
