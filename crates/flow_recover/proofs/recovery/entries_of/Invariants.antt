use Rattle.std.specs.BTreeSet.{contains}
use Rattle.code_ranges.specs.Spans.{place_cmp}
use Rattle.flow_recover.proofs.EntryIndexes.{AreUpTo}
use Rattle.flow_recover.proofs.recovery.entries_of.Given as goal

-- the entries among the nodes so far
abbrev pub invariant-loop-q : goal.invariant-loop-q
invariant-loop-q l = AreUpTo (λ j x. contains place_cmp l.places (j, x)) l.nodes l.q l.entries.items
