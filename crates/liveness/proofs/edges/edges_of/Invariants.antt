use Rattle.std.proofs.Common.{◌≡◌, ◌≤◌, ◌+◌, ◌*◌, ◌++◌, length, drop}
use Rattle.liveness.specs.Edges.{edges_from}
use Rattle.liveness.proofs.edges.edges_of.Given as goal

abbrev pub invariant-loop-p : goal.invariant-loop-p
invariant-loop-p l = record {
  points : l.edges.points ≡ length l.f.points;
  room : 2 * length l.f.points ≤ l.edges.spare + 2 * l.p;
  made : l.edges.edges ++ edges_from l.p (drop l.p l.f.points) ≡ edges_from 0 l.f.points;
}
