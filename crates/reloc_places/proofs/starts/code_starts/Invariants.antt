use Rattle.std.specs.BTreeMap.{get}
use Rattle.code_ranges.specs.Spans.{place_cmp}
use Rattle.reloc_places.proofs.StartTables.{StartsUpTo}
use Rattle.reloc_places.proofs.starts.code_starts.Given as goal

abbrev pub invariant-loop-r : goal.invariant-loop-r
invariant-loop-r l = StartsUpTo l.o l.ranges l.r-index (λ j x. get place_cmp l.starts (j, x))
