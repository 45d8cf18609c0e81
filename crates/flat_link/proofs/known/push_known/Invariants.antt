use Rattle.std.proofs.Common.{◌≡◌, ◌++◌, drop, map}
use Rattle.thumb_table.specs.Names.{numbered}
use Rattle.flat_link.specs.Known.{defined_of}
use Rattle.flat_link.proofs.known.push_known.Given as goal

abbrev pub invariant-loop-k : goal.invariant-loop-k
invariant-loop-k l = map defined_of l.all.items ++ numbered l.object l.k (drop l.k l.symbols) ≡ map defined_of l.fn.all.items ++ numbered l.object 0 l.symbols
