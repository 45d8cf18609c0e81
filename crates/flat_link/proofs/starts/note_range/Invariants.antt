use Rattle.std.proofs.Common.{◌-◌}
use Rattle.std.specs.BTreeMap.{get}
use Rattle.code_ranges.specs.Spans.{place_cmp}
use Rattle.flat_link.proofs.RangeStarts.{IsNoted}
use Rattle.flat_link.proofs.starts.note_range.Given as goal

abbrev pub invariant-loop-at : goal.invariant-loop-at
invariant-loop-at l = IsNoted l.bytes l.r.section l.r.start l.r.end l.at (λ j x. get place_cmp l.fn.starts (j, x)) (λ j x. get place_cmp l.starts (j, x))

abbrev pub decreases-loop-at : goal.decreases-loop-at
decreases-loop-at l = l.r.end - l.at
