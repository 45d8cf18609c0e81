use Rattle.std.proofs.Common.{drop}
use Rattle.listing.proofs.Ahead.{IsListedTo}
use Rattle.listing.proofs.contents.push_contents.Given as goal

abbrev pub invariant-loop-s : goal.invariant-loop-s
invariant-loop-s l = IsListedTo l.bytes l.spans l.at l.it (drop l.s-index l.spans) l.initial.text.items l.text.items
