use Rattle.std.proofs.Common.{◌≡◌, map, take}
use Rattle.it_expand.specs.Expanded.{expanded}
use Rattle.it_expand.proofs.expansion.expand.Given as goal

abbrev pub invariant-loop-point : goal.invariant-loop-point
invariant-loop-point l = l.bodies.items ≡ map expanded (take l.point-index l.points)
