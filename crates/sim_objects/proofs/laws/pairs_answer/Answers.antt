use Rattle.sim_objects.proofs.Kept.{pairs_answer}
use Rattle.sim_objects.proofs.laws.pairs_answer.Goals as goal

pub returns : goal.returns
returns c = pairs_answer
