use Rattle.seq_core.proofs.MovesCoded.{moves_are_constants}
use Rattle.seq_core.proofs.constants.moves_are_constants.Goals as goal

pub returns : goal.returns
returns c = moves_are_constants
