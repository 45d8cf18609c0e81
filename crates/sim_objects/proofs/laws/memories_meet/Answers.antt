use Rattle.sim_objects.proofs.Beginning.{memories_meet}
use Rattle.sim_objects.proofs.laws.memories_meet.Goals as goal

pub returns : goal.returns
returns c = memories_meet
