use Rattle.std.proofs.Common.{take}
use Rattle.flow_recover.specs.Gains.{Gains, IsFrom}
use Rattle.flow_recover.specs.RelocFaults.{IsRelocSpot}
use Rattle.flow_recover.proofs.reloc_faults.push_relocs.Given as goal

abbrev pub invariant-loop-r : goal.invariant-loop-r
invariant-loop-r l = Gains (IsFrom (IsRelocSpot l.o) (take l.r-index l.o.relocs)) l.fn.spots.items l.spots.items
