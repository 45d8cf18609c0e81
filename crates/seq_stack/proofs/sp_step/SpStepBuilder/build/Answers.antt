use Rattle.std.proofs.Common.{sym, ap, subst}
use Rattle.seq_core.specs.Series.{Series}
use Rattle.seq_core.specs.Builders.{AreCoded}
use Rattle.seq_stack.proofs.Built.{lone_free}
use Rattle.seq_stack.proofs.sp_step.SpStepBuilder.build.Goals as goal

pub returns-clause-coded : goal.returns-clause-coded
returns-clause-coded c =
    let free = lone_free c.args.i.now c.args.scratch.now c.index-scratch-0.result c.requires.enough c.index-scratch-0.is c.requires.free in
    subst AreCoded (sym (ap (λ (s : Series). s.steps) c.stack_stepped.ensures)) ((c.stack_steps_work.ensures c.args.i.now c.index-scratch-0.result c.requires.row c.requires.of free).coded c.args.copies)
