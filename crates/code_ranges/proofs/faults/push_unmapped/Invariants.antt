use Rattle.std.proofs.Common.{◌≡◌, ◌++◌, drop}
use Rattle.code_ranges.specs.Spots.{unmapped_spots}
use Rattle.code_ranges.proofs.faults.push_unmapped.Given as goal

abbrev pub invariant-loop-k : goal.invariant-loop-k
invariant-loop-k l = l.spots.items ++ unmapped_spots l.fn.symbols l.k (drop l.k l.sections) ≡ l.fn.spots.items ++ unmapped_spots l.fn.symbols 0 l.sections
