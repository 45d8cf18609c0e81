use Rattle.std.proofs.Common.{◌≡◌, ◌++◌, drop}
use Rattle.flat_link.specs.Layout.{parts_in}
use Rattle.flat_link.specs.Stops.{data_stops}
use Rattle.flat_link.proofs.stops.push_data.Given as goal

abbrev pub invariant-loop-k : goal.invariant-loop-k
invariant-loop-k l =
    l.stops.items ++ data_stops (parts_in l.layout) l.object l.symbols (drop l.k l.symbols) ≡ l.fn.stops.items ++ data_stops (parts_in l.layout) l.object l.symbols l.symbols
