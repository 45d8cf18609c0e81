use Rattle.std.proofs.Common.{◌-◌, ◌^◌}
use Rattle.std.specs.Prelude.{◌↔◌}
use Rattle.flow_recover.specs.Reach.{IsDeadEnd}
use Rattle.flow_recover.proofs.dead_ends.is_dead_end.Given as goal

abbrev pub invariant-loop-at : goal.invariant-loop-at
invariant-loop-at l = IsDeadEnd l.o l.section l.at ↔ IsDeadEnd l.o l.section l.fn.offset

abbrev pub decreases-loop-at : goal.decreases-loop-at
decreases-loop-at l = 2 ^ 32 - l.at
