use Rattle.flow_recover.proofs.FlowPoints.{points_rise, ends_apart}
use Rattle.flow_recover.proofs.laws.points_stand_apart.Goals as goal

pub returns-clause-rise : goal.returns-clause-rise
returns-clause-rise c = λ o f within flow. points_rise o f flow within

pub returns-clause-ends : goal.returns-clause-ends
returns-clause-ends c = λ o f p q x y flow. ends_apart o f flow p q x y
