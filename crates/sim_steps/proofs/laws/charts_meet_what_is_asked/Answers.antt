use Rattle.sim_steps.proofs.ExampleMet.{example_is_met, halves_are_met}
use Rattle.sim_steps.proofs.laws.charts_meet_what_is_asked.Goals as goal

pub returns-clause-calls : goal.returns-clause-calls
returns-clause-calls c = example_is_met

pub returns-clause-halves : goal.returns-clause-halves
returns-clause-halves c = halves_are_met
