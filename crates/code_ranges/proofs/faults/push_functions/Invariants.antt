use Rattle.std.proofs.Common.{◌≡◌, ◌++◌, drop}
use Rattle.code_ranges.specs.Spots.{function_spots}
use Rattle.code_ranges.proofs.faults.push_functions.Given as goal

abbrev pub invariant-loop-f : goal.invariant-loop-f
invariant-loop-f l = l.spots.items ++ function_spots l.sections (drop l.f-index l.symbols) ≡ l.fn.spots.items ++ function_spots l.sections l.symbols
