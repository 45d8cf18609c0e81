use Rattle.std.proofs.Common.{◌∙◌}
use Rattle.liveness.proofs.FaultFacts.{refusal_is, sets_are_live}
use Rattle.liveness.proofs.liveness.live.Goals as goal

pub returns-in-Some-clause-refused : goal.returns-in-Some-clause-refused
returns-in-Some-clause-refused c =
    refusal_is c.args.f.now c.args.b.now c.in_ok-sets.sets c.in_ok-sets.ensures c.deref.result.now c.in-Some.spot (c.deref.ensures.value ∙ c.in_ok-spots.ensures) c.in-Some.ensures

pub returns-in-None-clause-live : goal.returns-in-None-clause-live
returns-in-None-clause-live c =
    sets_are_live c.args.f.now c.args.b.now c.in_ok-sets.sets c.in_ok-sets.ensures c.deref.result.now (c.deref.ensures.value ∙ c.in_ok-spots.ensures) c.in-None.ensures
