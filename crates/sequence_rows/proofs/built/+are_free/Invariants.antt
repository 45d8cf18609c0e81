use Rattle.std.proofs.Common.{length}
use Rattle.sequence_rows.proofs.built.+are_free.Given as goal

abbrev pub decreases-are_free : goal.decreases-are_free
decreases-are_free l = length l.scratch.now
