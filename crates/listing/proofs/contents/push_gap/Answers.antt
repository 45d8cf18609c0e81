use Rattle.listing.proofs.Leading.{leads_across}
use Rattle.listing.proofs.contents.push_gap.Goals as goal

pub returns-in_ok-push_data : goal.returns-in_ok-push_data
returns-in_ok-push_data c = λ o j g. leads_across o j c.args.bytes.now c.args.start c.args.it c.args.end _ _ c.if-start-end.true c.requires.inside g (c.in_ok-push_data.ensures o j g)
