use Rattle.seq_core.proofs.Guard.{condition_settles, condition_moves}
use Rattle.seq_core.proofs.class_laws.conditions_work.Goals as goal

pub returns-clause-again : goal.returns-clause-again
returns-clause-again c = condition_settles

pub returns-clause-once : goal.returns-clause-once
returns-clause-once c = condition_moves
