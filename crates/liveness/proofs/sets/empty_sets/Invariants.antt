use Rattle.std.proofs.Common.{◌≡◌, ℕ, false, length}
use Rattle.liveness.specs.Sets.{holds_at}
use Rattle.liveness.proofs.sets.empty_sets.Given as goal

abbrev pub invariant-loop-x : goal.invariant-loop-x
invariant-loop-x l = record { sized : length l.sets.items ≡ l._x-index; empty : (p k : ℕ) → holds_at l.sets.items p k ≡ false }
