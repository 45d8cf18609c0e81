use Rattle.flow_recover.proofs.FlowPoints.{call_is_made, call_is_last, call_stops}
use Rattle.flow_recover.proofs.laws.calls_without_next_are_dead_ends.Goals as goal

pub returns-clause-made : goal.returns-clause-made
returns-clause-made c = λ o f p x flow at. call_is_made o f flow p x at

pub returns-clause-dead : goal.returns-clause-dead
returns-clause-dead c = λ o f p x flow at. call_is_last o f flow p x at

pub returns-clause-stops : goal.returns-clause-stops
returns-clause-stops c = λ o f p x flow at. call_stops o f flow p x at
