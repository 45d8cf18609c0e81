use Rattle.std.proofs.Common.{sym, ap, subst, List}
use Rattle.seq_core.specs.declared.steps.Step.{Step}
use Rattle.seq_core.specs.Builders.{AreCoded, Do, loses, own_test}
use Rattle.seq_calls.proofs.Done.{direct_call_does, call_coded}
use Rattle.seq_calls.proofs.direct_calls.DirectCallBuilder.build.Goals as goal

pub returns-clause-works : goal.returns-clause-works
returns-clause-works c =
    let i = c.args._i.now in
    let scratch = c.args._scratch.now in
    subst (λ (steps : List Step). Do (own_test i) i (loses i scratch) c.args.copies steps) (sym (ap (λ s. s.steps) c.called.ensures))
    (direct_call_does c.direct_calls_work.ensures c.steps_do.ensures i scratch c.args.copies c.requires.of c.requires.enough)

pub returns-clause-coded : goal.returns-clause-coded
returns-clause-coded c = subst (λ (steps : List Step). AreCoded steps) (sym (ap (λ s. s.steps) c.called.ensures)) (call_coded c.args.copies)
