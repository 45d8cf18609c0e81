use Rattle.std.proofs.Common.{◌≡◌, ◌++◌, drop}
use Rattle.code_ranges.specs.Spots.{arm_spots}
use Rattle.code_ranges.proofs.faults.push_arm.Given as goal

abbrev pub invariant-loop-s : goal.invariant-loop-s
invariant-loop-s l = l.spots.items ++ arm_spots (drop l.s-index l.spans) ≡ l.fn.spots.items ++ arm_spots l.spans
