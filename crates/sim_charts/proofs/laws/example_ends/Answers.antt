use Rattle.sim_charts.proofs.ExampleLinked.{example_ends}
use Rattle.sim_charts.proofs.laws.example_ends.Goals as goal

pub returns : goal.returns
returns c = example_ends
