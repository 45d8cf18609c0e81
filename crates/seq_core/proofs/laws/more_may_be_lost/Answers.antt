use Rattle.seq_core.proofs.Plain.{lose_more}
use Rattle.seq_core.proofs.laws.more_may_be_lost.Goals as goal

pub returns : goal.returns
returns c = lose_more
