use Rattle.std.proofs.Common.{Err, List, ℕ, sym, ap, ◌∙◌, subst, arith}
use Rattle.guard_cli.specs.Moments.{files_seen, screen_seen, IsSaved, IsHalfSaved, IsToldOf}
use Rattle.guard_cli.specs.Texts.{write_fault_line}
use Rattle.guard_cli.proofs.Saving.{first_of, unsaved_first, fails_later}
use Rattle.guard_cli.proofs.finishing.+save_all.Goals as goal

pub returns-in-Ok-clause-failed : goal.returns-in-Ok-clause-failed
returns-in-Ok-clause-failed g t c =
    let files = files_seen g.S.Shelf.tells g.S.Shelf.file g.S.Shelf.steady g.S.Shelf.load_faults g.S.Shelf.save_faults in
    let screen = screen_seen g.K.Sink.tells g.K.Sink.written g.K.Sink.steady g.K.Sink.faults g.K.Sink.wants in
    let old = files c.args.shelf.now in
    let between = files c.save.new.self in
    let others = c.in-Ok.ensures.others in
    let o = c.output-item.result in
    let saved : IsSaved c.deref.result.now c.deref-2.result.now old between = record { others = record { told = others.told; each = others.each }; whole = c.in-Ok.ensures.saved } in
    fails_later c.save_all.result _ o _ c.deref.result.now c.deref-2.result.now old between (files c.save_all.new.shelf) (screen c.args.out.now) (screen c.save_all.new.out)
    (first_of c.args.outputs.now o c.in-len1-up.len_at_least c.output-item.is) c.deref.ensures c.deref-2.ensures.value saved
    (record { loads = omega arith; saves = c.in-Ok.ensures.count; puts = omega arith; wants = omega arith; steady_files = c.in-Ok.ensures.steady; steady_screen = λ s. s })
    c.save_all.ensures.failed

pub returns-in-Err-Failed-clause-failed : goal.returns-in-Err-Failed-clause-failed
returns-in-Err-Failed-clause-failed g t c =
    let files = files_seen g.S.Shelf.tells g.S.Shelf.file g.S.Shelf.steady g.S.Shelf.load_faults g.S.Shelf.save_faults in
    let screen = screen_seen g.K.Sink.tells g.K.Sink.written g.K.Sink.steady g.K.Sink.faults g.K.Sink.wants in
    let old = files c.args.shelf.now in
    let new = files c.save.new.self in
    let others = c.save.ensures.others in
    let o = c.output-item.result in
    let failed = c.in-Err-Failed.is ∙ ap Err c.in-Err-Failed.field-0-is in
    let half : IsHalfSaved c.deref.result.now c.deref-2.result.now old new = record { others = record { told = others.told; each = others.each }; part = c.save.ensures.part failed } in
    unsaved_first _ o _ c.deref.result.now c.deref-2.result.now old new (screen c.args.out.now) (screen c.tell.new.out)
    (first_of c.args.outputs.now o c.in-len1-up.len_at_least c.output-item.is) c.deref.ensures c.deref-2.ensures.value half (c.save.ensures.failed failed) (λ steady. c.save.ensures.calm steady failed)
    (subst (λ (l : List ℕ). IsToldOf l (screen c.args.out.now) (screen c.tell.new.out)) (c.as_bytes.ensures.value ∙ o.says ∙ ap write_fault_line (sym c.deref.ensures)) c.tell.ensures.told)
