use Rattle.std.proofs.Common.{◌≡◌, ◌++◌, drop, map}
use Rattle.thumb_table.specs.Layouts.{bytes_from}
use Rattle.flat_link.specs.Lots.{placed_of}
use Rattle.flat_link.proofs.bytes.bytes_of.Given as goal

abbrev pub invariant-loop-l : goal.invariant-loop-l
invariant-loop-l l = l.bytes.items ++ bytes_from l.end (map placed_of (drop l.l-index l.lots)) ≡ bytes_from l.from (map placed_of l.lots)
