use Rattle.std.proofs.Common.{◌<◌, ℕ, get_or}
use Rattle.mark_word.specs.Words.{bare}
use Rattle.sim_charts.specs.Words.{SameCell}
use Rattle.sim_relation.specs.Same.{by_map}
use Rattle.sim_relation.proofs.sameness.are_same_cells.Given as goal

abbrev pub invariant-loop-k : goal.invariant-loop-k
invariant-loop-k l = (r : ℕ) → r < l.k → SameCell (by_map l.map) (get_or l.plain r (bare 0)) (get_or l.hard r (bare 0))
