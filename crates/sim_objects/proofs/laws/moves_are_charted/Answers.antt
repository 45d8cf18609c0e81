use Rattle.sim_objects.proofs.Moving.{moves_are_charted}
use Rattle.sim_objects.proofs.laws.moves_are_charted.Goals as goal

pub returns : goal.returns
returns c = moves_are_charted
