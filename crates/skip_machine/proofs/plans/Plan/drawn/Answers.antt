use Rattle.std.proofs.Common.{arith}
use Rattle.skip_machine.proofs.DrawnPlans.{drawn_is_legal}
use Rattle.skip_machine.proofs.plans.Plan.drawn.Goals as goal

pub returns-clause-legal : goal.returns-clause-legal
returns-clause-legal c =
    let two = c.requires in
    drawn_is_legal c.args.seed c.args.steps c.args.copies c.in_ok-numbers.numbers.items (omega arith) c.in_ok-numbers.ensures
