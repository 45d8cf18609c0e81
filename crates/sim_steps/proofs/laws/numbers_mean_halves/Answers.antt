use Rattle.sim_steps.proofs.Units.{numbers_mean, last_number_means}
use Rattle.sim_steps.proofs.laws.numbers_mean_halves.Goals as goal

pub returns-clause-others : goal.returns-clause-others
returns-clause-others c = numbers_mean

pub returns-clause-last : goal.returns-clause-last
returns-clause-last c = last_number_means
