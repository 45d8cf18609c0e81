use Rattle.std.proofs.Common.{◌∙◌}
use Rattle.std.specs.Fmt.{decimal}
use Rattle.std.proofs.lemmas.Result.{IfOk-weaker}
use Rattle.guard_cli.specs.Texts.{word_text, fault_name}
use Rattle.guard_cli.proofs.WordTexts.{stopped_parts}
use Rattle.guard_cli.proofs.texts.stopped_text.Goals as goal

pub returns : goal.returns
returns c =
    IfOk-weaker c.format.result _ _
    (λ x h. (simp (c.in_ok-place.ensures, c.fault_text-name.ensures) at h) ∙ stopped_parts (fault_name c.args.kind) (word_text c.args.pc) (decimal c.args.steps)) c.format.ensures.ok
