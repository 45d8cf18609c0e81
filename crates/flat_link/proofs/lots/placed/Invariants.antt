use Rattle.std.proofs.Common.{◌≡◌, ◌++◌, drop, map}
use Rattle.thumb_table.specs.Layouts.{placed}
use Rattle.flat_link.specs.Lots.{placed_of}
use Rattle.flat_link.specs.Placing.{alignment_of, end_of}
use Rattle.flat_link.proofs.lots.placed.Given as goal

abbrev pub invariant-loop-l : goal.invariant-loop-l
invariant-loop-l l = record {
  left : end_of (alignment_of l.sort) l.end (map placed_of (drop l.l-index l.lots)) ≡ end_of (alignment_of l.sort) l.from (map placed_of l.lots);
  made : map placed_of l.made.items ++ placed (alignment_of l.sort) l.end (map placed_of (drop l.l-index l.lots)) ≡ placed (alignment_of l.sort) l.from (map placed_of l.lots);
}
