use Rattle.sim_steps.proofs.Placed.{jumps_stand_last, blocks_stand_apart}
use Rattle.sim_steps.proofs.laws.jumps_stand_last.Goals as goal

pub returns-clause-jumps : goal.returns-clause-jumps
returns-clause-jumps c = jumps_stand_last

pub returns-clause-blocks : goal.returns-clause-blocks
returns-clause-blocks c = blocks_stand_apart
