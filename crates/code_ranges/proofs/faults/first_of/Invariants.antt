use Rattle.std.proofs.Common.{take}
use Rattle.code_ranges.specs.Spots.{IsFirst}
use Rattle.code_ranges.proofs.faults.first_of.Given as goal

abbrev pub invariant-loop-s : goal.invariant-loop-s
invariant-loop-s l = IsFirst (take l.s-index l.spots) l.first
