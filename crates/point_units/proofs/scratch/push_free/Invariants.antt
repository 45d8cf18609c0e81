use Rattle.std.proofs.Common.{◌≡◌, ◌++◌, drop}
use Rattle.liveness.specs.Spots.{picked}
use Rattle.point_units.specs.Spots.{free_in}
use Rattle.point_units.proofs.scratch.push_free.Given as goal

abbrev pub invariant-loop-n : goal.invariant-loop-n
invariant-loop-n l = l.free.items ++ picked (free_in l.busy) (drop l.n-index l.order) ≡ l.fn.free.items ++ picked (free_in l.busy) l.order
