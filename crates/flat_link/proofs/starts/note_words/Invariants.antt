use Rattle.std.specs.BTreeSet.{contains}
use Rattle.code_ranges.specs.Spans.{place_cmp}
use Rattle.flat_link.proofs.RangeStarts.{AreNoted}
use Rattle.flat_link.proofs.starts.note_words.Given as goal

abbrev pub invariant-loop-k : goal.invariant-loop-k
invariant-loop-k l = AreNoted l.r.section l.r.start l.r.end l.k (λ j x. contains place_cmp l.fn.words (j, x)) (λ j x. contains place_cmp l.words (j, x))
