use Rattle.std.proofs.Common.{◌≡◌, ◌++◌, drop}
use Rattle.flat_link.specs.Layout.{parts_in}
use Rattle.flat_link.specs.Stops.{all_data_stops}
use Rattle.flat_link.proofs.stops.push_all_data.Given as goal

abbrev pub invariant-loop-i : goal.invariant-loop-i
invariant-loop-i l =
    l.stops.items ++ all_data_stops (parts_in l.layout) l.i (drop l.i l.layout.objects.now) ≡ l.fn.stops.items ++ all_data_stops (parts_in l.layout) 0 l.layout.objects.now
