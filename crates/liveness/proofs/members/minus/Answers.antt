use Rattle.liveness.proofs.MemberFacts.{has_minus}
use Rattle.liveness.proofs.members.minus.Goals as goal

pub returns : goal.returns
returns c = has_minus c.with.result.0 c.args.a.0 c.args.b.0 c.symmetric_difference.result.0 c.with.ensures (c.symmetric_difference.ensures tt)
