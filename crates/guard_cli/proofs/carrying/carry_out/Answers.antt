use Rattle.std.proofs.Common.{◌≡◌, ℕ, List, [], length, map, String, Vec, Global, string_bytes, sym, ap, ◌∙◌, subst}
use Rattle.elf_model.specs.declared.refusals.Deny.{Deny}
use Rattle.guard_cli.specs.Inputs.{IsTurnedDown}
use Rattle.guard_cli.specs.Endings.{IsTurnedAwayAs}
use Rattle.guard_cli.specs.Moments.{files_seen, screen_seen}
use Rattle.guard_cli.specs.Works.{Input, inputs_of, input_named}
use Rattle.guard_cli.specs.Steps.{work_by, names_by, limit_by, saves_of, contents_of, AddsLoaded, IsMadeBy, MadeEndsAs}
use Rattle.guard_words.specs.Tasks.{meaning_by}
use Rattle.guard_cli.proofs.Carried.{made_comes}
use Rattle.guard_cli.proofs.CarriedTasks.{has_loaded, its_inputs, loaded_count, unloaded_ends, refused_comes}
use Rattle.guard_cli.proofs.Loaded.{contents_count}
use Rattle.guard_cli.proofs.Lawful.{work_is_lawful}
use Rattle.guard_cli.proofs.carrying.carry_out.Goals as goal

pub returns-in-Err-clause-ends : goal.returns-in-Err-clause-ends
returns-in-Err-clause-ends g c =
    let files = files_seen g.S.Shelf.tells g.S.Shelf.file g.S.Shelf.steady g.S.Shelf.load_faults g.S.Shelf.save_faults in
    let screen = screen_seen g.K.Sink.tells g.K.Sink.written g.K.Sink.steady g.K.Sink.faults g.K.Sink.wants in
    let task = c.args.task.now in
    let names = map string_bytes c.deref.result.now in
    let named : map string_bytes c.deref.result.now ≡ names_by task = ap (λ (ns : List (String Global)). map string_bytes ns) c.deref.ensures.value ∙ c.in-Ok.ensures in
    unloaded_ends task c.limit_of.result names (files c.args.shelf.now) (files c.load_all.new.shelf) (screen c.args.out.now) (screen c.load_all.new.out) c.in-Err.ending
    c.limit_of.ensures named c.load_all.ensures.untouched c.in-Err.ensures.failed

pub decide-requires-clause-count : goal.decide-requires-clause-count
decide-requires-clause-count g c =
    let task = c.args.task.now in
    let limit = c.limit_of.result in
    let names = map string_bytes c.deref.result.now in
    let told = g.S.Shelf.tells c.args.shelf.now in
    let content = g.S.Shelf.file c.args.shelf.now in
    let loaded = contents_of c.load_all.new.loaded.items in
    let named : map string_bytes c.deref.result.now ≡ names_by task = ap (λ (ns : List (String Global)). map string_bytes ns) c.deref.ensures.value ∙ c.in-Ok.ensures in
    let adds : AddsLoaded told content (inputs_of limit names) [] loaded =
    subst (λ (l : List (Vec ℕ Global)). AddsLoaded told content (inputs_of limit names) (contents_of l) loaded) c.new-loaded.ensures.items c.in-Ok-load_all.ensures.loaded in
    ap length c.deref-2.ensures.value ∙ sym (contents_count c.load_all.new.loaded.items) ∙ loaded_count task limit names told content loaded named adds

pub returns-in-Ok-decide-clause-ends : goal.returns-in-Ok-decide-clause-ends
returns-in-Ok-decide-clause-ends g c =
    let files = files_seen g.S.Shelf.tells g.S.Shelf.file g.S.Shelf.steady g.S.Shelf.load_faults g.S.Shelf.save_faults in
    let screen = screen_seen g.K.Sink.tells g.K.Sink.written g.K.Sink.steady g.K.Sink.faults g.K.Sink.wants in
    let task = c.args.task.now in
    let limit = c.limit_of.result in
    let names = map string_bytes c.deref.result.now in
    let told = g.S.Shelf.tells c.args.shelf.now in
    let content = g.S.Shelf.file c.args.shelf.now in
    let loaded = contents_of c.load_all.new.loaded.items in
    let named : map string_bytes c.deref.result.now ≡ names_by task = ap (λ (ns : List (String Global)). map string_bytes ns) c.deref.ensures.value ∙ c.in-Ok.ensures in
    let adds : AddsLoaded told content (inputs_of limit names) [] loaded =
    subst (λ (l : List (Vec ℕ Global)). AddsLoaded told content (inputs_of limit names) (contents_of l) loaded) c.new-loaded.ensures.items c.in-Ok-load_all.ensures.loaded in
    let made = c.in-Ok-decide.made in
    let old = files c.args.shelf.now in
    let mid = files c.load_all.new.shelf in
    let new = files c.finish.new.shelf in
    let after = screen c.finish.new.out in
    let ends = subst (λ k. MadeEndsAs made mid new (screen k) after c.finish.result) c.in-Ok-load_all.ensures.silent c.finish.ensures.ends in
    let is_made = subst (λ (l : List (Vec ℕ Global)). IsMadeBy (work_by task) (contents_of l) made) c.deref-2.ensures.value c.in-Ok-decide.ensures.made in
    let lawful = work_is_lawful (meaning_by task) in
    made_comes (work_by task) loaded (saves_of made.outputs.items) made.report.items made.stopped old mid new (screen c.args.out.now) after c.finish.result lawful.promises
    (has_loaded task limit names old loaded c.limit_of.ensures named adds)
    (record { same = c.load_all.ensures.untouched; steady = c.load_all.ensures.handed_on.steady_files }) is_made ends

pub returns-in-Err-Refused-clause-ends : goal.returns-in-Err-Refused-clause-ends
returns-in-Err-Refused-clause-ends g c =
    let files = files_seen g.S.Shelf.tells g.S.Shelf.file g.S.Shelf.steady g.S.Shelf.load_faults g.S.Shelf.save_faults in
    let screen = screen_seen g.K.Sink.tells g.K.Sink.written g.K.Sink.steady g.K.Sink.faults g.K.Sink.wants in
    let task = c.args.task.now in
    let limit = c.limit_of.result in
    let names = map string_bytes c.deref.result.now in
    let told = g.S.Shelf.tells c.args.shelf.now in
    let content = g.S.Shelf.file c.args.shelf.now in
    let loaded = contents_of c.load_all.new.loaded.items in
    let named : map string_bytes c.deref.result.now ≡ names_by task = ap (λ (ns : List (String Global)). map string_bytes ns) c.deref.ensures.value ∙ c.in-Ok.ensures in
    let adds : AddsLoaded told content (inputs_of limit names) [] loaded =
    subst (λ (l : List (Vec ℕ Global)). AddsLoaded told content (inputs_of limit names) (contents_of l) loaded) c.new-loaded.ensures.items c.in-Ok-load_all.ensures.loaded in
    let w = work_by task in
    let spot = c.in-Err-Refused.spot in
    let old = files c.args.shelf.now in
    let new = files c.load_all.new.shelf in
    let now = screen c.args.out.now in
    let after = screen c.turn_away.new.out in
    let refused = subst (λ (d : Deny). IsTurnedDown (w.Refuses (contents_of c.deref-2.result.now)) d) c.in-Err-Refused.field-0-is c.in-Err-Refused.ensures.refused in
    let cause = subst (λ (l : List (Vec ℕ Global)). w.Refuses (contents_of l) spot) c.deref-2.ensures.value refused in
    let turned = subst (λ k. IsTurnedAwayAs c.name_at.result.now spot (screen k) after c.turn_away.result) c.in-Ok-load_all.ensures.silent c.turn_away.ensures.ending in
    let again : map string_bytes c.deref-in-Err-Refused.result.now ≡ names_by task =
    ap (λ (ns : List (String Global)). map string_bytes ns) c.deref-in-Err-Refused.ensures.value ∙ c.in-Ok.ensures in
    let called : c.name_at.result.now ≡ input_named w.inputs spot.file =
    c.name_at.ensures (limit_by task) ∙ ap (λ (ns : List (List ℕ)). input_named (inputs_of (limit_by task) ns) spot.file) again
    ∙ ap (λ (l : List Input). input_named l spot.file) (sym (its_inputs task)) in
    refused_comes task spot loaded old new now after c.turn_away.result (has_loaded task limit names old loaded c.limit_of.ensures named adds) cause c.load_all.ensures.untouched
    (subst (λ (n : List ℕ). IsTurnedAwayAs n spot now after c.turn_away.result) called turned)
