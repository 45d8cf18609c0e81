use Rattle.std.proofs.Common.{◌-◌}
use Rattle.listing.proofs.Leading.{IsUpTo}
use Rattle.listing.proofs.contents.push_range.Given as goal

abbrev pub invariant-loop-place : goal.invariant-loop-place
invariant-loop-place l = IsUpTo l.bytes l.start l.end l.it l.place.at l.place.it l.initial.text.items l.text.items

abbrev pub decreases-loop-place : goal.decreases-loop-place
decreases-loop-place l = l.end - l.place.at
