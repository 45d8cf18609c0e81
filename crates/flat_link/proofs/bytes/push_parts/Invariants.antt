use Rattle.std.proofs.Common.{◌≡◌, ◌++◌, drop, map}
use Rattle.thumb_table.specs.Layouts.{as_part}
use Rattle.flat_link.specs.Lots.{placed_of}
use Rattle.flat_link.proofs.bytes.push_parts.Given as goal

abbrev pub invariant-loop-l : goal.invariant-loop-l
invariant-loop-l l = l.parts.items ++ map as_part (map placed_of (drop l.l-index l.lots)) ≡ l.fn.parts.items ++ map as_part (map placed_of l.lots)
