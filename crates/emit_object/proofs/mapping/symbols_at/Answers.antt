use Rattle.emit_object.proofs.MarkFacts.{symbols_more}
use Rattle.emit_object.proofs.mapping.symbols_at.Goals as goal

pub loop-p-preserved : goal.loop-p-preserved
loop-p-preserved c =
    symbols_more c.args.words.now c.args.places.now c.loop-p.p-index _ c.loop-p.list.items c.push.new.self.items _ c.in_ok-mapping_symbol.field-0 c.loop-p-test.true c.loop-p.invariant c.in_ok-mapping_symbol.ensures c.in_ok-push.ensures.items
