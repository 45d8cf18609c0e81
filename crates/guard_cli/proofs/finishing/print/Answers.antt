use Rattle.std.proofs.Common.{Err, sym, ap, ◌∙◌, subst}
use Rattle.guard_cli.specs.declared.endings.Ending.{Ending}
use Rattle.guard_cli.specs.Texts.{no_memory_line}
use Rattle.guard_cli.specs.Moments.{screen_seen}
use Rattle.guard_cli.specs.Steps.{ReportEndsAs}
use Rattle.guard_cli.proofs.Saving.{told_behind}
use Rattle.guard_cli.proofs.finishing.print.Goals as goal

pub returns-in-Err-Memory-clause-ending : goal.returns-in-Err-Memory-clause-ending
returns-in-Err-Memory-clause-ending g c =
    let screen = screen_seen g.K.Sink.tells g.K.Sink.written g.K.Sink.steady g.K.Sink.faults g.K.Sink.wants in
    let old = screen c.args.out.now in
    let mid = screen c.put.new.self in
    let new = screen c.give_up.new.out in
    let wanting = c.in-Err-Memory.is ∙ ap Err c.in-Err-Memory.field-0-is in
    subst (λ (e : Ending). ReportEndsAs c.args.report.now old new e) (sym c.give_up.ensures.ending)
    (told_behind no_memory_line old mid new (record { cause = c.put.ensures.wanted wanting; nothing = c.put.ensures.memory wanting }) c.put.ensures.told (c.put.ensures.memory_count wanting)
    c.put.ensures.wants_count c.put.ensures.steady c.give_up.ensures.told)
