use Rattle.liveness.proofs.OneAnswer.{sets_once, live_refusal_once}
use Rattle.liveness.proofs.laws.points_have_one_live_set.Goals as goal

pub returns-clause-one : goal.returns-clause-one
returns-clause-one c = sets_once

pub returns-clause-refused : goal.returns-clause-refused
returns-clause-refused c = λ o f b s t flow x y. live_refusal_once o f b flow s t x y

pub returns-clause-apart : goal.returns-clause-apart
returns-clause-apart c = λ f b l s are x. are.no_fault s.refusal s.section s.offset x.fault
