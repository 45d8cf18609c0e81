use Rattle.std.proofs.Common.{drop}
use Rattle.listing.specs.ListingSteps.{ListsBefore}
use Rattle.listing.proofs.listings.listing.Given as goal

abbrev pub invariant-loop-j : goal.invariant-loop-j
invariant-loop-j l = ListsBefore l.o l.j (drop l.j l.o.sections) l.text.items
