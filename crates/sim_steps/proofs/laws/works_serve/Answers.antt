use Rattle.sim_steps.proofs.Units.{work_serves}
use Rattle.sim_steps.proofs.laws.works_serve.Goals as goal

pub returns : goal.returns
returns c = work_serves
