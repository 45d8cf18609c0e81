use Rattle.sim_objects.proofs.Existing.{lists_have_charts}
use Rattle.sim_objects.proofs.laws.lists_have_charts.Goals as goal

pub returns : goal.returns
returns c = lists_have_charts
