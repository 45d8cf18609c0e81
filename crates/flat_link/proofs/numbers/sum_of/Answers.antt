use Rattle.flat_link.specs.Sites.{link_of}
use Rattle.flat_link.proofs.TieFacts.{standing, link_meant}
use Rattle.flat_link.proofs.numbers.sum_of.Goals as goal

pub stands-requires-clause-known : goal.stands-requires-clause-known
stands-requires-clause-known c = link_meant c.args.layout.now.objects.now c.args.layout.now.at (standing c.args.layout.now c.requires.layout) (link_of c.args.t.now) c.requires.tie.link
