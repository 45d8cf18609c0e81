use Rattle.thumb_decode.proofs.multiple.+members.Given as goal

abbrev pub decreases-members : goal.decreases-members
decreases-members l = l.k
