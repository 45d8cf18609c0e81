use Rattle.std.proofs.Common.{◌≡◌, ◌++◌, drop, map}
use Rattle.flat_link.specs.Entries.{entries_among}
use Rattle.flat_link.specs.Known.{defined_of}
use Rattle.flat_link.specs.Layout.{parts_in}
use Rattle.flat_link.proofs.entries.entries_of.Given as goal

abbrev pub invariant-loop-known : goal.invariant-loop-known
invariant-loop-known l =
    l.entries.items ++ entries_among l.layout.objects.now (parts_in l.layout) (map defined_of (drop l.known-index l.all)) ≡ entries_among l.layout.objects.now (parts_in l.layout) (map defined_of l.all)
