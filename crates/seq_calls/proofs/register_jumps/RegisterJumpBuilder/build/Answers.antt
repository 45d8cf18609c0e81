use Rattle.std.proofs.Common.{sym, ap, subst, List}
use Rattle.seq_core.specs.declared.steps.Step.{Step}
use Rattle.seq_core.specs.Builders.{Do, loses, own_test}
use Rattle.seq_calls.proofs.Done.{register_jump_does}
use Rattle.seq_calls.proofs.register_jumps.RegisterJumpBuilder.build.Goals as goal

pub returns-clause-works : goal.returns-clause-works
returns-clause-works c =
    let i = c.args.i.now in
    let scratch = c.args._scratch.now in
    subst (λ (steps : List Step). Do (own_test i) i (loses i scratch) c.args.copies steps) (sym (ap (λ s. s.steps) c.itself.ensures))
    (register_jump_does c.register_jumps_work.ensures c.steps_do.ensures i scratch c.args.copies c.requires.of c.requires.enough)
