use Rattle.std.proofs.Common.{◌∙◌}
use Rattle.std.specs.Fmt.{decimal}
use Rattle.std.proofs.lemmas.Result.{IfOk-weaker}
use Rattle.guard_cli.specs.Texts.{word_text, yes_or_no}
use Rattle.guard_cli.proofs.WordTexts.{returned_parts}
use Rattle.guard_cli.proofs.texts.returned_text.Goals as goal

pub returns : goal.returns
returns c =
    IfOk-weaker c.format.result _ _
    (λ x h. (simp (c.in_ok-r0.ensures, c.answer_text-ordinary.ensures) at h) ∙ returned_parts (decimal c.args.steps) (word_text c.args.r0) (yes_or_no c.args.ordinary)) c.format.ensures.ok
