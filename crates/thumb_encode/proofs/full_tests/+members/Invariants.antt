use Rattle.thumb_encode.proofs.full_tests.+members.Given as goal

abbrev pub decreases-members : goal.decreases-members
decreases-members l = l.k
