use Rattle.std.proofs.Common.{◌≡◌, ◌≤◌, ◌++◌, drop, map}
use Rattle.thumb_table.specs.Layouts.{chosen}
use Rattle.flat_link.specs.Lots.{placed_of}
use Rattle.flat_link.specs.Placing.{is_of}
use Rattle.flat_link.proofs.lots.push_chosen.Given as goal

abbrev pub invariant-loop-j : goal.invariant-loop-j
invariant-loop-j l = record {
  made : map placed_of l.lots.items ++ chosen (is_of l.sort) l.object l.j l.ordinal (drop l.j l.sections) ≡ map placed_of l.fn.lots.items ++ chosen (is_of l.sort) l.object 0 0 l.sections;
  low : l.ordinal ≤ l.j;
}
