use Rattle.std.proofs.Common.{◌-◌}
use Rattle.listing.proofs.Leading.{IsOver}
use Rattle.listing.proofs.contents.push_data.Given as goal

abbrev pub invariant-loop-at : goal.invariant-loop-at
invariant-loop-at l = IsOver l.bytes l.start l.end l.at l.initial.text.items l.text.items

abbrev pub decreases-loop-at : goal.decreases-loop-at
decreases-loop-at l = l.end - l.at
