use Rattle.std.proofs.Common.{◌≡◌, drop}
use Rattle.liveness.specs.Spots.{first_member}
use Rattle.liveness.proofs.spots.first_member.Given as goal

abbrev pub invariant-loop-k : goal.invariant-loop-k
invariant-loop-k l = first_member (drop l.k-index l.among) l.set ≡ first_member l.among l.set
