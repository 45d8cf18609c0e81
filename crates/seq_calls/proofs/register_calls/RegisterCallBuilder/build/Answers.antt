use Rattle.std.proofs.Common.{sym, ap, subst, List}
use Rattle.seq_core.specs.declared.steps.Step.{Step}
use Rattle.seq_core.specs.Builders.{AreCoded, Do, loses, own_test}
use Rattle.seq_calls.proofs.Done.{register_call_does, register_call_coded}
use Rattle.seq_calls.proofs.register_calls.RegisterCallBuilder.build.Goals as goal

pub returns-clause-works : goal.returns-clause-works
returns-clause-works c =
    let i = c.args.i.now in
    let scratch = c.args.scratch.now in
    subst (λ (steps : List Step). Do (own_test i) i (loses i scratch) c.args.copies steps) (sym (ap (λ s. s.steps) c.register_called.ensures))
    (register_call_does c.register_calls_work.ensures c.link_calls_work.ensures c.steps_do.ensures i scratch c.args.copies c.requires)

pub returns-clause-coded : goal.returns-clause-coded
returns-clause-coded c = subst (λ (steps : List Step). AreCoded steps) (sym (ap (λ s. s.steps) c.register_called.ensures))
    (register_call_coded c.decodes_are_formed.ensures c.args.i.now c.args.scratch.now c.args.copies c.requires.of c.requires.row c.requires.free)
