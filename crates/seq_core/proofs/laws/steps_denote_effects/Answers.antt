use Rattle.seq_core.proofs.Denoted.{steps_denote}
use Rattle.seq_core.proofs.laws.steps_denote_effects.Goals as goal

pub returns : goal.returns
returns c = steps_denote
