use Rattle.std.proofs.Common.{◌∙◌}
use Rattle.std.proofs.lemmas.Result.{IfOk-weaker}
use Rattle.make_run.specs.MakeTexts.{made_line, hardened_line, plain_run_line, hardened_run_line}
use Rattle.make_run.specs.MakeSteps.{tally_of}
use Rattle.make_run.proofs.LineParts.{report_parts}
use Rattle.make_run.proofs.lines.report_text.Goals as goal

pub returns : goal.returns
returns c =
    let t = tally_of c.args.t.now in
    IfOk-weaker c.format.result _ _
    (λ x h. (simp (c.in_ok-made.ensures, c.in_ok-hardened.ensures, c.in_ok-plain.ensures, c.in_ok-hard.ensures, c.requires) at h) ∙ report_parts (made_line t) (hardened_line t) (plain_run_line t) (hardened_run_line t))
    c.format.ensures.ok
