use Rattle.std.proofs.Common.{◌≡◌, ◌++◌, drop}
use Rattle.liveness.specs.Spots.{picked, call_spot}
use Rattle.liveness.proofs.spots.push_calls.Given as goal

abbrev pub invariant-loop-x : goal.invariant-loop-x
invariant-loop-x l = l.spots.items ++ picked (call_spot l.sets.sets) (drop l.x-index l.f.points) ≡ l.fn.spots.items ++ picked (call_spot l.sets.sets) l.f.points
