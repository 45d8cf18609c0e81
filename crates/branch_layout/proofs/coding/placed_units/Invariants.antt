use Rattle.std.proofs.Common.{take}
use Rattle.std.specs.List.{AllZip, zip}
use Rattle.branch_layout.specs.Placings.{places_of}
use Rattle.branch_layout.specs.Layouts.{IsPlacedUnit}
use Rattle.branch_layout.proofs.coding.placed_units.Given as goal

abbrev pub invariant-loop-k : goal.invariant-loop-k
invariant-loop-k l = AllZip (IsPlacedUnit (places_of l.placing)) (take l.k (zip l.units l.placing.units)) l.placed.items
