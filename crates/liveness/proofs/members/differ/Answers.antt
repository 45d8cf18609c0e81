use Rattle.std.proofs.Common.{arith}
use Rattle.liveness.proofs.MemberFacts.{differ_is}
use Rattle.liveness.proofs.members.differ.Goals as goal

pub returns : goal.returns
returns c = differ_is c.args.a.0 c.args.b.0 c.bits.result c.bits-2.result (omega arith) (omega arith) c.requires (c.bits.ensures tt) (c.bits-2.ensures tt)
