use Rattle.seq_core.proofs.Quiet.{quiet}
use Rattle.seq_core.proofs.laws.effects_stay_quiet.Goals as goal

pub returns : goal.returns
returns c = quiet
