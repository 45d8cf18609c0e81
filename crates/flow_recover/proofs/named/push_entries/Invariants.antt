use Rattle.std.proofs.Common.{take}
use Rattle.flow_recover.specs.Gains.{Gains, IsFrom}
use Rattle.flow_recover.specs.NamedClaims.{IsEntryClaim}
use Rattle.flow_recover.proofs.named.push_entries.Given as goal

abbrev pub invariant-loop-s : goal.invariant-loop-s
invariant-loop-s l = Gains (IsFrom (IsEntryClaim l.o) (take l.s-index l.o.symbols)) l.fn.claims.items l.claims.items
