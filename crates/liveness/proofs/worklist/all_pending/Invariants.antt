use Rattle.std.proofs.Common.{◌≡◌, ◌≤◌, ◌<◌, ℕ, length}
use Rattle.std.specs.Prelude.{Contains}
use Rattle.liveness.proofs.worklist.all_pending.Given as goal

abbrev pub invariant-loop-p : goal.invariant-loop-p
invariant-loop-p l = record {
  size : l.pending.size ≡ l.count;
  all : (q : ℕ) → q < l.p → Contains l.pending.waiting q;
  few : length l.pending.waiting ≤ l.p;
}
