use Rattle.branch_layout.proofs.LeadingFacts.{leading_stand}
use Rattle.branch_layout.proofs.laws.leading_units_stand.Goals as goal

pub returns : goal.returns
returns c = leading_stand
