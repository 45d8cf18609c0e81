use Rattle.flow_recover.proofs.NamedFacts.{are_named}
use Rattle.flow_recover.proofs.named.named_places.Goals as goal

pub returns : goal.returns
returns c = are_named c.args.o.now c.new-claims.result.items c.push_entries.new.claims.items c.push_relocs.new.claims.items c.new-claims.ensures.items c.in_ok-push_entries.ensures c.in_ok-push_relocs.ensures
