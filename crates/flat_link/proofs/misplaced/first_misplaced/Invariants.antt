use Rattle.flat_link.proofs.MisplacedFacts.{AreRightUpTo}
use Rattle.flat_link.proofs.misplaced.first_misplaced.Given as goal

abbrev pub invariant-loop-i : goal.invariant-loop-i
invariant-loop-i l = AreRightUpTo l.objects l.i
