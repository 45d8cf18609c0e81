use Rattle.std.proofs.Common.{◌≡◌, ◌++◌, drop, map}
use Rattle.thumb_table.specs.Layouts.{all_chosen}
use Rattle.flat_link.specs.Lots.{placed_of}
use Rattle.flat_link.specs.Placing.{is_of}
use Rattle.flat_link.proofs.lots.chosen.Given as goal

abbrev pub invariant-loop-i : goal.invariant-loop-i
invariant-loop-i l = map placed_of l.lots.items ++ all_chosen (is_of l.sort) l.i (drop l.i l.objects) ≡ all_chosen (is_of l.sort) 0 l.objects
