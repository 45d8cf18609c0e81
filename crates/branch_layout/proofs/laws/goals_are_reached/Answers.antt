use Rattle.branch_layout.proofs.CodingFacts.{goals_reached}
use Rattle.branch_layout.proofs.laws.goals_are_reached.Goals as goal

pub returns : goal.returns
returns c = goals_reached
