use Rattle.sim_charts.proofs.ExampleRun.{example_runs}
use Rattle.sim_charts.proofs.laws.example_runs.Goals as goal

pub returns : goal.returns
returns c = example_runs
