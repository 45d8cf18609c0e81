use Rattle.std.proofs.Common.{refl, ap, ◌+◌}
use Rattle.reloc_places.proofs.StartFacts.{length_most}
use Rattle.flow_recover.proofs.BlockFacts.{whole_none, whole_more, whole_all}
use Rattle.flow_recover.proofs.blocks.are_whole.Goals as goal

pub loop-k-init : goal.loop-k-init
loop-k-init c = whole_none c.args.bytes.now c.args.b c.args.b.start refl

pub loop-k-preserved : goal.loop-k-preserved
loop-k-preserved c = whole_more c.args.bytes.now c.args.b c.loop-k.whole _ c.loop-k.k c.loop-k.at _ c.loop-k-test.true c.loop-k.invariant
    (ap (λ n. c.loop-k.at + n) c.length_from-at.ensures) (length_most c.args.bytes.now c.loop-k.at) refl

pub returns : goal.returns
returns c = whole_all c.args.bytes.now c.args.b c.loop-k.whole c.loop-k.k c.loop-k.at c.loop-k-test.false c.loop-k.invariant
