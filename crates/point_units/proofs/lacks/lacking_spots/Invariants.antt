use Rattle.std.proofs.Common.{take}
use Rattle.point_units.specs.Spots.{AreSpots}
use Rattle.point_units.proofs.lacks.lacking_spots.Given as goal

abbrev pub invariant-loop-p : goal.invariant-loop-p
invariant-loop-p l = AreSpots l.f l.b (take l.p l.f.points) l.spots.items
