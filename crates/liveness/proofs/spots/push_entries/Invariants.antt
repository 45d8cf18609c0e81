use Rattle.std.proofs.Common.{◌≡◌, ◌++◌, drop}
use Rattle.liveness.specs.Spots.{picked, entry_spot}
use Rattle.liveness.proofs.spots.push_entries.Given as goal

abbrev pub invariant-loop-p : goal.invariant-loop-p
invariant-loop-p l = l.spots.items ++ picked (entry_spot l.f.points l.sets.sets) (drop l.p-index l.f.entries) ≡ l.fn.spots.items ++ picked (entry_spot l.f.points l.sets.sets) l.f.entries
