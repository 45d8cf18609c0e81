use Rattle.std.proofs.Common.{◌≡◌, ◌++◌, drop}
use Rattle.sim_relation.specs.Taken.{by_twins}
use Rattle.sim_relation.proofs.address_maps.take_row.Given as goal

abbrev pub invariant-loop-other : goal.invariant-loop-other
invariant-loop-other l = l.out.items ++ by_twins l.part l.row (drop l.other-index l.hard) ≡ l.fn.out.items ++ by_twins l.part l.row l.hard
