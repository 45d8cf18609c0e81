use Rattle.std.specs.BTreeSet.{contains}
use Rattle.code_ranges.specs.Spans.{place_cmp}
use Rattle.flat_link.proofs.SpanTables.{WordsUpTo}
use Rattle.flat_link.proofs.starts.words_of.Given as goal

abbrev pub invariant-loop-r : goal.invariant-loop-r
invariant-loop-r l = WordsUpTo l.o l.spans l.r-index (λ j x. contains place_cmp l.words (j, x))
