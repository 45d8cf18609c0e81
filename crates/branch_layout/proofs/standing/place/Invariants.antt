use Rattle.std.proofs.Common.{◌≤◌, ◌-◌}
use Rattle.branch_layout.specs.Standing.{StandsAt}
use Rattle.branch_layout.proofs.standing.place.Given as goal

abbrev pub invariant-loop-count : goal.invariant-loop-count
invariant-loop-count l = record { low : l.i ≤ l.count; stands : StandsAt l.units l.words l.i (l.count - l.i) l.standing }
