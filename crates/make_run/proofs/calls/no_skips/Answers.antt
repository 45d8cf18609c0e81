use Rattle.std.proofs.lemmas.Result.{IfOk-weaker}
use Rattle.make_run.proofs.PlainCalls.{none_drawn}
use Rattle.make_run.proofs.calls.no_skips.Goals as goal

pub returns : goal.returns
returns c = IfOk-weaker c.drawn.result _ _ (λ plan drawn. none_drawn 0 2 plan drawn) c.drawn.ensures.plan
