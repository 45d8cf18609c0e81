use Rattle.std.proofs.Common.{◌≡◌, arith}
use Rattle.liveness.proofs.MemberFacts.{has_above}
use Rattle.liveness.proofs.members.is_word.Goals as goal

pub returns : goal.returns
returns c = λ k high. let e : c.bits-bits.result ≡ c.args.a.0 = c.bits-bits.ensures tt in has_above c.args.a.0 k (omega arith) high
