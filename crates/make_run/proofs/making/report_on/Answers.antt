use Rattle.std.proofs.Common.{◌≡◌, ◌∷◌, [], ◌∙◌, ◌*◌, ℕ, List, ap, subst, string_bytes}
use Rattle.std.proofs.lemmas.Result.{IfOk-weaker}
use Rattle.elf_model.specs.declared.objects.Section.{Section}
use Rattle.elf_model.specs.Objects.{code_size}
use Rattle.thumb_table.specs.States.{read}
use Rattle.skip_machine.specs.Draws.{IsDrawn}
use Rattle.skip_machine.specs.Machines.{state}
use Rattle.gen_image.specs.GeneratedImages.{placement}
use Rattle.gen_runs.specs.GeneratedRuns.{steps_of}
use Rattle.make_run.specs.Making.{skipped_of}
use Rattle.make_run.specs.MakeTexts.{make_report}
use Rattle.make_run.specs.MakeSteps.{HasReturned}
use Rattle.make_run.proofs.PlainCalls.{can_run}
use Rattle.make_run.proofs.Reported.{end_alike, hard_can_return, is_made, same_numbers}
use Rattle.make_run.proofs.making.report_on.Goals as goal

pub returned-requires-clause-run : goal.returned-requires-clause-run
returned-requires-clause-run c = can_run (c.args.made.now.hardened.object ∷ []) placement c.args.made.now.hard c.requires.hard

pub returned-requires-clause-returns : goal.returned-requires-clause-returns
returned-requires-clause-returns c =
    hard_can_return c.args.made.now c.requires c.is_hardened.ensures c.in_ok-plain.plain c.in_ok-plain.ensures c.in_ok-plan.plan c.steps.result
    (c.steps.ensures ∙ c.in_ok-plain.ensures.steps) c.in_ok-plan.ensures.legal

pub same_text-requires-clause-alike : goal.same_text-requires-clause-alike
same_text-requires-clause-alike c =
    let m = c.args.made.now in
    let p = c.in_ok-plain.plain in
    let q = c.in_ok-hard.hard in
    let plan = c.in_ok-plan.plan in
    let count : c.steps.result ≡ steps_of m.count = c.steps.ensures ∙ c.in_ok-plain.ensures.steps in
    let ran = subst (λ (n : ℕ). HasReturned m.hard plan (m.hardened.factor * n) q) count c.in_ok-hard.ensures in
    end_alike m c.requires c.is_hardened.ensures p c.in_ok-plain.ensures q plan c.in_ok-plan.ensures.legal ran

pub returns : goal.returns
returns c =
    let m = c.args.made.now in
    let p = c.in_ok-plain.plain in
    let q = c.in_ok-hard.hard in
    let plan = c.in_ok-plan.plan in
    let count : c.steps.result ≡ steps_of m.count = c.steps.ensures ∙ c.in_ok-plain.ensures.steps in
    let drawn = subst (λ (n : ℕ). IsDrawn m.seed (m.hardened.factor * n) 2 plan) count c.in_ok-plan.ensures.plan in
    let ran = subst (λ (n : ℕ). HasReturned m.hard plan (m.hardened.factor * n) q) count c.in_ok-hard.ensures in
    let numbers = same_numbers
    (λ old new steps r0 hard_steps skips hard_r0. make_report (record {
      functions = m.count;
      old_bytes = old;
      new_bytes = new;
      factor = m.hardened.factor;
      steps = steps;
      r0 = r0;
      hard_steps = hard_steps;
      skips = skips;
      hard_r0 = hard_r0;
    }))
    c.code_bytes_of.result c.code_bytes_of-2.result c.steps-2.result c.r0_of.result c.steps-3.result c.skips_of.result c.r0_of-2.result
    (code_size m.object.sections) (code_size m.hardened.object.sections) (steps_of m.count) (read (state p).core 0).bits q.steps (skipped_of plan q.steps) (read (state q).core 0).bits
    (c.code_bytes_of.ensures ∙ ap (λ (s : List Section). code_size s) c.sections.ensures)
    (c.code_bytes_of-2.ensures ∙ ap (λ (s : List Section). code_size s) c.sections-2.ensures)
    (c.steps-2.ensures ∙ c.in_ok-plain.ensures.steps) c.r0_of.ensures c.steps-3.ensures
    (c.skips_of.ensures ∙ ap (λ (n : ℕ). skipped_of plan n) c.steps-4.ensures) c.r0_of-2.ensures in
    IfOk-weaker c.report_text.result _ _
    (λ text said. is_made m c.requires c.is_hardened.ensures p c.in_ok-plain.ensures q plan c.in_ok-plan.ensures.legal ran drawn (string_bytes text) (said ∙ numbers)) c.report_text.ensures
