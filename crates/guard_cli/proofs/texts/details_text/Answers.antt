use Rattle.std.proofs.Common.{append_assoc}
use Rattle.std.proofs.lemmas.Result.{IfOk-weaker}
use Rattle.guard_cli.proofs.texts.details_text.Goals as goal

pub returns-in-NoScratch : goal.returns-in-NoScratch
returns-in-NoScratch c = IfOk-weaker c.format.result _ _ (λ x h. rw c.in-NoScratch.is (simp append_assoc (simp c.answer_text-flags.ensures at h))) c.format.ensures.ok
