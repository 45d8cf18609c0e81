use Rattle.std.proofs.Common.{◌≡◌, ◌∷◌, [], ℕ, refl, sym, ap, ◌∙◌, subst}
use Rattle.std.proofs.lemmas.Option.{same_Some}
use Rattle.thumb_table.specs.Parts.{Memory}
use Rattle.thumb_table.specs.States.{State}
use Rattle.thumb_table.specs.Schedules.{is_in, ReturnsWithin}
use Rattle.thumb_table.specs.Calls.{start, started}
use Rattle.skip_machine.specs.declared.machines.Outcome.{Outcome}
use Rattle.skip_machine.specs.Machines.{state}
use Rattle.skip_machine.specs.Runs.{RunEnds}
use Rattle.make_run.proofs.CallEnds.{IsFresh, ends_of, returns_only}
use Rattle.make_run.proofs.calls.returned.Goals as goal

pub unreachable-requires-in_default-run : goal.unreachable-requires-in_default-run
unreachable-requires-in_default-run c =
    let image = c.args.image.now in
    let can = c.requires.returns in
    let begun = start image 65536 c.in-Some.entry (3 ∷ []) in
    let first = c.start.new.self in
    let last = c.run.new.self in
    let skips = is_in c.args.plan.now in
    let fresh : IsFresh first image.code begun = record {
      code_is = c.start.ensures.fresh.0 ∙ c.in_ok-machine.ensures.0;
      steps = c.start.ensures.fresh.1;
      state_is = c.start.ensures.state ∙ ap (λ (m : Memory). started m c.in-Some.entry (3 ∷ [])) c.in_ok-machine.ensures.1;
    } in
    let place : can.is.entry ≡ c.in-Some.entry = same_Some can.is.entry c.in-Some.entry (sym can.is.entry_is ∙ sym c.entry.ensures ∙ c.in-Some.is) in
    let same : can.begun ≡ begun = can.is.start_is ∙ ap (λ (a : ℕ). start image 65536 a (3 ∷ [])) place in
    returns_only image.code skips c.args.most begun can.ended (subst (λ (s : State). ReturnsWithin image.code skips c.args.most 0 s can.ended) same can.returns)
    c.run.result last.steps (state last) c.in_default-run.not-Returned (ends_of skips c.args.most first last image.code begun c.run.result fresh c.run.ensures)

pub returns : goal.returns
returns c =
    let image = c.args.image.now in
    let begun = start image 65536 c.in-Some.entry (3 ∷ []) in
    let first = c.start.new.self in
    let last = c.run.new.self in
    let skips = is_in c.args.plan.now in
    let fresh : IsFresh first image.code begun = record {
      code_is = c.start.ensures.fresh.0 ∙ c.in_ok-machine.ensures.0;
      steps = c.start.ensures.fresh.1;
      state_is = c.start.ensures.state ∙ ap (λ (m : Memory). started m c.in-Some.entry (3 ∷ [])) c.in_ok-machine.ensures.1;
    } in
    let ends = subst (λ (o : Outcome). RunEnds image.code skips c.args.most 0 begun o last.steps (state last)) c.in-Returned.is
    (ends_of skips c.args.most first last image.code begun c.run.result fresh c.run.ensures) in
    record {
      begun = begun;
      is = record { entry = c.in-Some.entry; entry_is = sym c.entry.ensures ∙ c.in-Some.is; start_is = refl };
      within = ends.0;
      returns = ends.1;
    }
