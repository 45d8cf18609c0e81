use Rattle.std.proofs.Common.{◌∙◌}
use Rattle.std.specs.Fmt.{decimal}
use Rattle.std.proofs.lemmas.Result.{IfOk-weaker}
use Rattle.make_run.specs.Lines.{word_text}
use Rattle.make_run.proofs.LineParts.{plain_parts}
use Rattle.make_run.proofs.lines.plain_run_text.Goals as goal

pub returns : goal.returns
returns c = IfOk-weaker c.format.result _ _ (λ x h. (simp (c.in_ok-r0.ensures) at h) ∙ plain_parts (decimal c.args.t.now.steps) (word_text c.args.t.now.r0)) c.format.ensures.ok
