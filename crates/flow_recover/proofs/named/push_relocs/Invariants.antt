use Rattle.std.proofs.Common.{take}
use Rattle.flow_recover.specs.Gains.{Gains, IsFrom}
use Rattle.flow_recover.specs.NamedClaims.{IsRelocClaim}
use Rattle.flow_recover.proofs.named.push_relocs.Given as goal

abbrev pub invariant-loop-r : goal.invariant-loop-r
invariant-loop-r l = Gains (IsFrom (IsRelocClaim l.o) (take l.r-index l.o.relocs)) l.fn.claims.items l.claims.items
