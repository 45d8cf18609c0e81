use Rattle.std.proofs.Common.{◌≡◌, ◌++◌, drop, map}
use Rattle.flat_link.specs.Lots.{placed_of}
use Rattle.flat_link.specs.Stops.{end_stops}
use Rattle.flat_link.proofs.stops.push_ends.Given as goal

abbrev pub invariant-loop-l : goal.invariant-loop-l
invariant-loop-l l = l.stops.items ++ end_stops (map placed_of (drop l.l-index l.layout.code.items)) ≡ l.fn.stops.items ++ end_stops (map placed_of l.layout.code.items)
