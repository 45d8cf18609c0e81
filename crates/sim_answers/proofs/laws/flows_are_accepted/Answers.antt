use Rattle.sim_answers.proofs.Accepted.{flows_are_accepted}
use Rattle.sim_answers.proofs.laws.flows_are_accepted.Goals as goal

pub returns : goal.returns
returns c = flows_are_accepted
