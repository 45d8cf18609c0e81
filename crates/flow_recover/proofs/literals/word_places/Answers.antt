use Rattle.flow_recover.proofs.LiteralFacts.{places_listed}
use Rattle.flow_recover.proofs.literals.word_places.Goals as goal

pub returns-clause-exact : goal.returns-clause-exact
returns-clause-exact c = places_listed c.args.o.now c.in_ok-places.places c.in_ok-list.list.items c.in_ok-places.ensures.exact c.listed.ensures.ordered c.in_ok-list.ensures.items
