use Rattle.std.proofs.Common.{refl}
use Rattle.flow_recover.specs.Walks.IsKnown.{next}
use Rattle.flow_recover.proofs.EdgeFacts.{bad_leads}
use Rattle.flow_recover.proofs.PointFacts.{reached_starts}
use Rattle.flow_recover.proofs.WalkFacts.{led_nowhere}
use Rattle.flow_recover.proofs.walks.go_on.Goals as goal

pub found-requires-clause-start : goal.found-requires-clause-start
found-requires-clause-start c = reached_starts c.args.o.now c.args.n (c.requires.walk.reached c.args.n (next refl))

pub returns-in-Err : goal.returns-in-Err
returns-in-Err c = led_nowhere c.args.o.now c.args.n c.args.walk.now c.requires.walk (λ m l. bad_leads c.args.o.now c.args.n m c.in-Err.field-0 c.in-Err.ensures l)
