use Rattle.std.specs.BTreeSet.{contains}
use Rattle.code_ranges.specs.Spans.{place_cmp}
use Rattle.reloc_places.proofs.StartTables.{WordsUpTo}
use Rattle.reloc_places.proofs.starts.data_words.Given as goal

abbrev pub invariant-loop-r : goal.invariant-loop-r
invariant-loop-r l = WordsUpTo l.o l.ranges l.r-index (λ j x. contains place_cmp l.words (j, x))
