use Rattle.std.specs.BTreeMap.{get}
use Rattle.code_ranges.specs.Spans.{place_cmp}
use Rattle.flat_link.proofs.SpanTables.{StartsUpTo}
use Rattle.flat_link.proofs.starts.starts_of.Given as goal

abbrev pub invariant-loop-r : goal.invariant-loop-r
invariant-loop-r l = StartsUpTo l.o l.spans l.r-index (λ j x. get place_cmp l.starts (j, x))
