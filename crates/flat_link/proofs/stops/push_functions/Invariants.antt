use Rattle.std.proofs.Common.{◌≡◌, ◌++◌, drop, map}
use Rattle.flat_link.specs.Known.{defined_of}
use Rattle.flat_link.specs.Layout.{parts_in}
use Rattle.flat_link.specs.Stops.{function_stops}
use Rattle.flat_link.proofs.stops.push_functions.Given as goal

abbrev pub invariant-loop-known : goal.invariant-loop-known
invariant-loop-known l =
    l.stops.items ++ function_stops (parts_in l.layout) (map defined_of (drop l.known-index l.all)) ≡ l.fn.stops.items ++ function_stops (parts_in l.layout) (map defined_of l.all)
