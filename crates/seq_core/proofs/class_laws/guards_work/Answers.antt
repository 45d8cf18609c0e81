use Rattle.seq_core.proofs.Guard.{guard_settles, guard_moves}
use Rattle.seq_core.proofs.class_laws.guards_work.Goals as goal

pub returns-clause-again : goal.returns-clause-again
returns-clause-again c = guard_settles

pub returns-clause-once : goal.returns-clause-once
returns-clause-once c = guard_moves
