use Rattle.std.proofs.Common.{◌≡◌, ◌≤◌, ◌⊎◌, take, Contains}
use Rattle.seq_core.specs.Places.{PlacedParts}
use Rattle.pair_parts.specs.Made.{count_of}
use Rattle.harden_core.proofs.counting.factor_of.Given as goal

abbrev pub invariant-loop-u : goal.invariant-loop-u
invariant-loop-u l = record {
  low : 1 ≤ l.most;
  most : l.most ≤ 32;
  enough : (u : PlacedParts) → Contains (take l.u-index l.fn.l.units) u → count_of u ≤ l.most;
  one : (l.most ≡ 1) ⊎ ((u : PlacedParts) × Contains l.fn.l.units u × (count_of u ≡ l.most));
}
