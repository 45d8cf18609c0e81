use Rattle.std.proofs.Common.{◌≡◌, ◌≤◌, ◌+◌, ◌*◌, ◌^◌, drop, map}
use Rattle.flat_link.specs.Lots.{placed_of}
use Rattle.flat_link.specs.Placing.{alignment_of, end_of}
use Rattle.flat_link.proofs.lots.end_of.Given as goal

abbrev pub invariant-loop-l : goal.invariant-loop-l
invariant-loop-l l = record {
  left : end_of (alignment_of l.sort) l.end (map placed_of (drop l.l-index l.lots)) ≡ end_of (alignment_of l.sort) l.from (map placed_of l.lots);
  low : l.end ≤ l.from + l.l-index * 2 ^ 33;
}
