use Rattle.sim_answers.proofs.CallUnits.{call_row_has_units}
use Rattle.sim_answers.proofs.laws.call_row_has_units.Goals as goal

pub returns : goal.returns
returns c = call_row_has_units
