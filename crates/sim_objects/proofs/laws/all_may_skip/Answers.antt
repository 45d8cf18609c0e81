use Rattle.sim_objects.proofs.Skipping.{all_may_skip}
use Rattle.sim_objects.proofs.laws.all_may_skip.Goals as goal

pub returns : goal.returns
returns c = all_may_skip
