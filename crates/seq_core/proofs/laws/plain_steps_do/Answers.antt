use Rattle.seq_core.proofs.Plain.{plain_steps_do}
use Rattle.seq_core.proofs.laws.plain_steps_do.Goals as goal

pub returns : goal.returns
returns c = plain_steps_do
