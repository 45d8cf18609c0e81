use Rattle.sim_answers.proofs.SectionsStay.{sections_stay}
use Rattle.sim_answers.proofs.laws.sections_stay.Goals as goal

pub returns : goal.returns
returns c = sections_stay
