use Rattle.std.proofs.Common.{sym, ap, subst, List}
use Rattle.seq_core.specs.declared.steps.Step.{Step}
use Rattle.seq_core.specs.Builders.{AreCoded, Do, loses, own_test}
use Rattle.seq_calls.proofs.Done.{zero_branch_does, zero_branch_coded}
use Rattle.seq_calls.proofs.zero_branches.ZeroBranchBuilder.build.Goals as goal

pub returns-clause-works : goal.returns-clause-works
returns-clause-works c =
    let i = c.args.i.now in
    let scratch = c.args._scratch.now in
    subst (λ (steps : List Step). Do (own_test i) i (loses i scratch) c.args.copies steps) (sym (ap (λ s. s.steps) c.zero_branched.ensures))
    (zero_branch_does c.zero_branches_work.ensures c.steps_do.ensures i scratch c.args.copies c.requires.of c.requires.enough)

pub returns-clause-coded : goal.returns-clause-coded
returns-clause-coded c = subst (λ (steps : List Step). AreCoded steps) (sym (ap (λ s. s.steps) c.zero_branched.ensures)) (zero_branch_coded c.decodes_are_apart.ensures.low c.args.i.now c.args.copies c.requires.of c.requires.row)
