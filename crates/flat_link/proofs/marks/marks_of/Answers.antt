use Rattle.std.proofs.Common.{arith}
use Rattle.flat_link.proofs.TieFacts.{tie_at}
use Rattle.flat_link.proofs.marks.marks_of.Goals as goal

pub mark_at-requires-clause-tie : goal.mark_at-requires-clause-tie
mark_at-requires-clause-tie c = tie_at c.args.layout.now c.args.ties.now c.requires.ties c.loop-t.t-index c.t-item.result (omega arith) c.t-item.is
