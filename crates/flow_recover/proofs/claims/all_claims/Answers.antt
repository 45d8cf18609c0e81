use Rattle.std.proofs.Common.{rules}
use Rattle.flow_recover.proofs.ClaimFacts.{claims_all}
use Rattle.flow_recover.proofs.claims.all_claims.Goals as goal

pub returns : goal.returns
returns c = claims_all c.args.o.now c.args.named.now c.args.visits.now c.requires.named c.requires.visits c.extend_from_slice.new.self.items (search rules)
