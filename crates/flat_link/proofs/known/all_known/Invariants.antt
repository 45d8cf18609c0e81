use Rattle.std.proofs.Common.{◌≡◌, ◌++◌, drop, map}
use Rattle.thumb_table.specs.Names.{all_symbols}
use Rattle.flat_link.specs.Known.{defined_of}
use Rattle.flat_link.proofs.known.all_known.Given as goal

abbrev pub invariant-loop-i : goal.invariant-loop-i
invariant-loop-i l = map defined_of l.all.items ++ all_symbols l.i (drop l.i l.objects) ≡ all_symbols 0 l.objects
