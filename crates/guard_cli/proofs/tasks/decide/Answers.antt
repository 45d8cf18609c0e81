use Rattle.std.proofs.Common.{sym, subst}
use Rattle.guard_words.specs.declared.tasks.Task.{Task}
use Rattle.guard_cli.specs.Steps.{work_by, contents_of, IsMadeBy}
use Rattle.guard_cli.proofs.tasks.decide.Goals as goal

pub returns-in_ok-decide-in-Make-clause-made : goal.returns-in_ok-decide-in-Make-clause-made
returns-in_ok-decide-in-Make-clause-made c =
    let files = contents_of c.args.files.now in
    subst (λ (t : Task). IsMadeBy (work_by t) files c.in_ok-decide-in-Make.field-0) (sym c.in-Make.is) (c.in_ok-decide-in-Make.ensures files)
