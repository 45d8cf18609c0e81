use Rattle.std.proofs.Common.{arith}
use Rattle.flat_link.proofs.TieFacts.{tie_at}
use Rattle.flat_link.proofs.reaches.first_out.Goals as goal

pub is_in_range-requires-clause-tie : goal.is_in_range-requires-clause-tie
is_in_range-requires-clause-tie c = tie_at c.args.layout.now c.args.ties.now c.requires.ties c.loop-t.t-index c.t-item.result (omega arith) c.t-item.is
