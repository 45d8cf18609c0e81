use Rattle.sim_objects.proofs.Moving.{entries_are_charted}
use Rattle.sim_objects.proofs.laws.entries_are_charted.Goals as goal

pub returns : goal.returns
returns c = entries_are_charted
