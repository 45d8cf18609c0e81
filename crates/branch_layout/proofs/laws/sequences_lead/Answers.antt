use Rattle.branch_layout.proofs.BuiltFacts.{built_lead, all_lead_as}
use Rattle.branch_layout.proofs.LeadingFacts.{guarded_lead, landed_lead}
use Rattle.branch_layout.proofs.laws.sequences_lead.Goals as goal

pub returns-clause-built : goal.returns-clause-built
returns-clause-built c = built_lead

pub returns-clause-guarded : goal.returns-clause-guarded
returns-clause-guarded c = guarded_lead

pub returns-clause-landed : goal.returns-clause-landed
returns-clause-landed c = landed_lead

pub returns-clause-lead_as : goal.returns-clause-lead_as
returns-clause-lead_as c = all_lead_as
