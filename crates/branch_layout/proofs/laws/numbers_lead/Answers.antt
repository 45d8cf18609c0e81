use Rattle.branch_layout.proofs.LeadsFacts.{numbers_lead as lead, copies_reach}
use Rattle.branch_layout.proofs.laws.numbers_lead.Goals as goal

pub returns-clause-numbers : goal.returns-clause-numbers
returns-clause-numbers c = lead

pub returns-clause-copies : goal.returns-clause-copies
returns-clause-copies c = copies_reach
