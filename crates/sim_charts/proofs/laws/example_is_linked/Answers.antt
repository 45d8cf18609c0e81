use Rattle.sim_charts.proofs.ExampleLinked.{example_is_linked}
use Rattle.sim_charts.proofs.laws.example_is_linked.Goals as goal

pub returns : goal.returns
returns c = example_is_linked
