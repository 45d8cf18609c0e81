use Rattle.std.proofs.Common.{◌≡◌, ◌∙◌, ℕ, Bool, true, sym, ap, subst, get_or, arith}
use Rattle.std.proofs.lemmas.List.{get_or_default}
use Rattle.mark_word.specs.Words.{Word, plain}
use Rattle.thumb_table.specs.declared.cores.Core.{Core as Registers}
use Rattle.std.specs.Prelude.{◌↔◌}
use Rattle.thumb_table.specs.Parts.{Memory}
use Rattle.thumb_table.specs.Calls.{start, started}
use Rattle.thumb_table.specs.Schedules.{is_in, OrdinaryRun}
use Rattle.skip_machine.specs.Machines.{state}
use Rattle.skip_machine.specs.Runs.{RunEnds}
use Rattle.guard_cli.proofs.RunFinished.{IsFresh, ends_of, ordinary_of}
use Rattle.guard_cli.proofs.run.run_image.Goals as goal

pub returns : goal.returns
returns c =
    let image = c.args.image.now in
    let most = c.args.steps in
    let schedule = c.args.plan.now in
    let begun = start image c.args.stack c.args.entry c.args.arguments.now in
    let first = c.start.new.self in
    let last = c.run-outcome.new.self in
    let fresh : IsFresh first image.code begun = record {
      code_is = c.start.ensures.fresh.0 ∙ c.in_ok-machine.ensures.0;
      steps = c.start.ensures.fresh.1;
      ordinary = c.start.ensures.fresh.3;
      state_is = c.start.ensures.state ∙ ap (λ (m : Memory). started m c.args.entry c.args.arguments.now) c.in_ok-machine.ensures.1;
    } in
    record {
      ended = state last;
      ends = subst (λ (n : ℕ). RunEnds image.code (is_in schedule) most 0 begun c.run-outcome.result n (state last)) (sym c.steps.ensures)
          (ends_of (is_in schedule) most first last image.code begun c.run-outcome.result fresh c.run-outcome.ensures);
      r0_is = c.bits.ensures
          ∙ ap (λ (w : Word). w.bits) (get_or_default c.registers.result.now.r 0 c.index-registers-0.result (plain 0) (omega arith))
          ∙ ap (λ (k : Registers). (get_or k.r 0 (plain 0)).bits) c.registers.ensures;
      ordinary_is = subst (λ (n : ℕ). (c.is_ordinary.result ≡ true) ↔ OrdinaryRun image.code (is_in schedule) n 0 begun) (sym c.steps.ensures)
          (subst (λ (b : Bool). (b ≡ true) ↔ OrdinaryRun image.code (is_in schedule) last.steps 0 begun) (sym c.is_ordinary.ensures)
          (ordinary_of (is_in schedule) most first last image.code begun c.run-outcome.result fresh c.run-outcome.ensures));
    }
