use Rattle.it_expand.proofs.Before.{guard_does, guard_coded}
use Rattle.it_expand.proofs.guards.guarded.Goals as goal

pub returns-clause-works : goal.returns-clause-works
returns-clause-works c = guard_does c.guards_work.ensures.again c.steps_do.ensures c.args.c c.args.copies c.args.s.now c.behind_guard.result c.behind_guard.ensures

pub returns-clause-coded : goal.returns-clause-coded
returns-clause-coded c = guard_coded c.args.c c.args.copies c.args.s.now c.behind_guard.result c.behind_guard.ensures
