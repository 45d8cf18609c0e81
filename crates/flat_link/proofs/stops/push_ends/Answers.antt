use Rattle.std.proofs.Common.{arith}
use Rattle.flat_link.proofs.SymbolFacts.{lot_low}
use Rattle.flat_link.proofs.stops.push_ends.Goals as goal

pub overflow_add-l : goal.overflow_add-l
overflow_add-l c =
    let l = c.args.layout.now in
    omega (arith, lot_low l.objects.now l.at c.requires.sound c.requires.fits l.code.items c.as_slice-l-items.result.now c.requires.code c.as_slice-l-items.ensures.value c.loop-l.l-index c.l-item.result (omega arith) c.l-item.is)
