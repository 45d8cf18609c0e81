use Rattle.std.proofs.Common.{◌∷◌, ap, ◌∙◌}
use Rattle.std.proofs.lemmas.Result.{IfOk-weaker}
use Rattle.make_run.proofs.LineParts.{word_shown}
use Rattle.make_run.proofs.lines.word_text.Goals as goal

pub returns : goal.returns
returns c = IfOk-weaker c.format.result _ _ (λ x h. (simp (c.in_radix.ensures, c.laid_out.ensures) at h) ∙ ap (λ ds. 48 ∷ 120 ∷ ds) (word_shown _)) c.format.ensures.ok
