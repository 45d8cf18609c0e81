use Rattle.sim_relation.proofs.EmptyLoops.{empty_loop}
use Rattle.sim_relation.proofs.laws.empty_loops_work.Goals as goal

pub returns : goal.returns
returns c = empty_loop
