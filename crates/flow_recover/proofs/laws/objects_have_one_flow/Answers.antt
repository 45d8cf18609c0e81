use Rattle.flow_recover.proofs.OneFlow.{flow_once, refusal_once, flow_or_refusal}
use Rattle.flow_recover.proofs.laws.objects_have_one_flow.Goals as goal

pub returns-clause-one : goal.returns-clause-one
returns-clause-one c = flow_once

pub returns-clause-refused : goal.returns-clause-refused
returns-clause-refused c = refusal_once

pub returns-clause-apart : goal.returns-clause-apart
returns-clause-apart c = flow_or_refusal
