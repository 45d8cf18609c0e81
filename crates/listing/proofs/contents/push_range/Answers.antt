use Rattle.listing.proofs.Leading.{up_to_start, up_to_next}
use Rattle.listing.proofs.contents.push_range.Goals as goal

pub loop-place-init : goal.loop-place-init
loop-place-init c = up_to_start c.args.bytes.now c.args.start c.args.end c.args.it _ c.requires.some

pub loop-place-preserved : goal.loop-place-preserved
loop-place-preserved c = up_to_next c.args.bytes.now c.args.start c.args.end c.args.it _ _ _ _ _ _ _ c.loop-place-test.true c.loop-place.invariant c.in_ok-place.ensures
