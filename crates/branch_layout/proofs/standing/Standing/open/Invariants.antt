use Rattle.std.proofs.Common.{◌≤◌, ◌-◌, length}
use Rattle.branch_layout.specs.Standing.{StandsOn}
use Rattle.branch_layout.proofs.standing.Standing.open.Given as goal

abbrev pub invariant-loop-self : goal.invariant-loop-self
invariant-loop-self l = record { stands : StandsOn l.fn.self l.self; low : length l.self.placing.sizes ≤ l.section; end : l.self.end ≤ l.fn.self.end }

abbrev pub decreases-loop-self : goal.decreases-loop-self
decreases-loop-self l = l.section - length l.self.placing.sizes
