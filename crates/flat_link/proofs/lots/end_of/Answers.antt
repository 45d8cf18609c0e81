use Rattle.std.proofs.Common.{arith}
use Rattle.flat_link.specs.Lots.{is_sound}
use Rattle.flat_link.proofs.ListFacts.{each}
use Rattle.flat_link.proofs.lots.end_of.Goals as goal

pub start_of-requires-clause-section : goal.start_of-requires-clause-section
start_of-requires-clause-section c = each is_sound c.args.lots.now c.loop-l.l-index c.l-item.result c.requires.sound (omega arith) c.l-item.is
