use Rattle.std.proofs.Common.{List, ℕ, map, string_bytes, sym, subst, take, drop, length, ◌-◌}
use Rattle.std.specs.Prelude.{IfErr, IsSome}
use Rattle.guard_cli.specs.Moments.{files_seen, screen_seen}
use Rattle.guard_cli.specs.Works.{inputs_of}
use Rattle.guard_cli.specs.Steps.{LoadFailsAs, LoadsFailAs}
use Rattle.guard_cli.proofs.Loaded.{names_from, first_unread, later_unread, first_there, later_there, stay_on}
use Rattle.guard_cli.proofs.loading.+load_all.Goals as goal

pub returns-in-Err-clause-failed : goal.returns-in-Err-clause-failed
returns-in-Err-clause-failed g t c =
    let files = files_seen g.S.Shelf.tells g.S.Shelf.file g.S.Shelf.steady g.S.Shelf.load_faults g.S.Shelf.save_faults in
    let screen = screen_seen g.K.Sink.tells g.K.Sink.written g.K.Sink.steady g.K.Sink.faults g.K.Sink.wants in
    let n = c.name-item.result in
    let old = files c.args.shelf.now in
    let new = files c.load_input.new.shelf in
    let now = screen c.args.out.now in
    let after = screen c.load_input.new.out in
    first_unread c.args.limit (map string_bytes c.args.names.now) (string_bytes n) _ (names_from c.args.names.now n c.in-len1-up.len_at_least c.name-item.is) old new now after c.in-Err.ending
    c.load_input.ensures.untouched (subst (λ (m : List ℕ). LoadFailsAs m old new now after c.in-Err.ending) c.as_str.ensures.value c.in-Err.ensures.failed)

pub returns-clause-failed : goal.returns-clause-failed
returns-clause-failed g t c =
    let files = files_seen g.S.Shelf.tells g.S.Shelf.file g.S.Shelf.steady g.S.Shelf.load_faults g.S.Shelf.save_faults in
    let screen = screen_seen g.K.Sink.tells g.K.Sink.written g.K.Sink.steady g.K.Sink.faults g.K.Sink.wants in
    let n = c.name-item.result in
    let rest = map string_bytes (take (length c.args.names.now - 1) (drop 1 c.args.names.now)) in
    let old = files c.args.shelf.now in
    let mid = files c.load_input.new.shelf in
    let new = files c.load_all.new.shelf in
    let after = screen c.load_all.new.out in
    let failed = subst (λ k. IfErr c.load_all.result (LoadsFailAs (inputs_of c.args.limit rest) mid new (screen k) after)) c.in-Ok.ensures.silent c.load_all.ensures.failed in
    let on = c.load_input.ensures.handed_on in
    later_unread c.args.limit (map string_bytes c.args.names.now) (string_bytes n) rest (names_from c.args.names.now n c.in-len1-up.len_at_least c.name-item.is) c.load_all.result old mid new
    (screen c.args.out.now) after (record { same = c.load_input.ensures.untouched; loads = on.loads; steady = on.steady_files }) failed

pub returns-clause-calm : goal.returns-clause-calm
returns-clause-calm g t c = λ steady steady_out all.
    let files = files_seen g.S.Shelf.tells g.S.Shelf.file g.S.Shelf.steady g.S.Shelf.load_faults g.S.Shelf.save_faults in
    let screen = screen_seen g.K.Sink.tells g.K.Sink.written g.K.Sink.steady g.K.Sink.faults g.K.Sink.wants in
    let n = c.name-item.result in
    let rest = map string_bytes (take (length c.args.names.now - 1) (drop 1 c.args.names.now)) in
    let are = names_from c.args.names.now n c.in-len1-up.len_at_least c.name-item.is in
    let here = first_there c.args.limit (map string_bytes c.args.names.now) (string_bytes n) rest are (λ name. IsSome (g.S.Shelf.file c.args.shelf.now name)) all in
    let there = subst (λ (m : List ℕ). IsSome (g.S.Shelf.file c.args.shelf.now m)) (sym c.as_str.ensures.value) here in
    let on = c.load_input.ensures.handed_on in
    let later = later_there c.args.limit (map string_bytes c.args.names.now) (string_bytes n) rest are (g.S.Shelf.file c.args.shelf.now) (g.S.Shelf.file c.load_input.new.shelf)
    c.load_input.ensures.untouched.each all in
    stay_on (files c.args.shelf.now) (files c.load_input.new.shelf) (files c.load_all.new.shelf) (screen c.args.out.now) (screen c.load_input.new.out) (screen c.load_all.new.out)
    (c.load_input.ensures.calm steady steady_out there) (c.load_all.ensures.calm (on.steady_files steady) (on.steady_screen steady_out) later)
