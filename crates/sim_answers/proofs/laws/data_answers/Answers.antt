use Rattle.sim_answers.proofs.DataAnswered.{data_answered}
use Rattle.sim_answers.proofs.laws.data_answers.Goals as goal

pub returns : goal.returns
returns c = data_answered
