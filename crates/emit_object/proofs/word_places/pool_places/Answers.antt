use Rattle.emit_object.proofs.WordFacts.{pool_more, pool_all}
use Rattle.emit_object.proofs.word_places.pool_places.Goals as goal

pub loop-k-preserved : goal.loop-k-preserved
loop-k-preserved c = pool_more c.args.words.now c.args.places.now c.requires c.loop-k.k _ c.loop-k.list.items c.push.new.self.items c.loop-k-test.true c.loop-k.invariant c.in_ok-push.ensures.items

pub returns : goal.returns
returns c = pool_all c.args.words.now c.args.places.now c.requires c.loop-k.k c.loop-k.list.items c.loop-k-test.false c.loop-k.invariant
