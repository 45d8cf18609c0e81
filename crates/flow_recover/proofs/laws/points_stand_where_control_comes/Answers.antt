use Rattle.flow_recover.proofs.FlowPoints.{next_there, target_there, entry_there, entry_is}
use Rattle.flow_recover.proofs.laws.points_stand_where_control_comes.Goals as goal

pub returns-clause-next : goal.returns-clause-next
returns-clause-next c = λ o f p q x flow at. next_there o f flow p x at q

pub returns-clause-target : goal.returns-clause-target
returns-clause-target c = λ o f p q x flow at. target_there o f flow p x at q

pub returns-clause-entry : goal.returns-clause-entry
returns-clause-entry c = λ o f j x flow. entry_there o f flow j x

pub returns-clause-entered : goal.returns-clause-entered
returns-clause-entered c = λ o f q flow. entry_is o f flow q
