use Rattle.std.proofs.Common.{◌≡◌, replicate, None}
use Rattle.index_links.proofs.chains.no_links.Given as goal

abbrev pub invariant-loop-head : goal.invariant-loop-head
invariant-loop-head l = l.links.items ≡ replicate l._head None
