use Rattle.sim_objects.proofs.Linking.{lists_are_linked}
use Rattle.sim_objects.proofs.laws.lists_are_linked.Goals as goal

pub returns : goal.returns
returns c = lists_are_linked
