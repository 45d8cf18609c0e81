use Rattle.std.proofs.Common.{◌∷◌, []}
use Rattle.std.proofs.lemmas.Result.{IfOk-weaker}
use Rattle.gen_object.specs.Generated.{generated}
use Rattle.gen_image.specs.GeneratedImages.{placement}
use Rattle.make_run.proofs.PlainCalls.{can_run, can_return, has_returned}
use Rattle.make_run.proofs.calls.returned_plainly.Goals as goal

pub returned-requires-clause-run : goal.returned-requires-clause-run
returned-requires-clause-run c = can_run (generated c.requires.image.0 c.args.count ∷ []) placement c.args.image.now c.requires.image.1

pub returned-requires-clause-returns : goal.returned-requires-clause-returns
returned-requires-clause-returns c =
    can_return c.generated_images_are_known.ensures c.generated_calls_return.ensures c.requires.image.0 c.args.count c.args.image.now
    (record { low = c.requires.low; high = c.requires.high }) c.requires.image.1 c.in_ok-plan.plan c.in_ok-plan.ensures

pub returns : goal.returns
returns c =
    IfOk-weaker c.returned.result _ _
    (λ m has. has_returned c.generated_images_are_known.ensures c.generated_calls_return.ensures c.requires.image.0 c.args.count c.args.image.now
    (record { low = c.requires.low; high = c.requires.high }) c.requires.image.1 c.in_ok-plan.plan c.in_ok-plan.ensures m has) c.returned.ensures
