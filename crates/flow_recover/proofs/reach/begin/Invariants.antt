use Rattle.std.proofs.Common.{take}
use Rattle.flow_recover.proofs.WalkFacts.{HasBegun}
use Rattle.flow_recover.proofs.reach.begin.Given as goal

abbrev pub invariant-loop-c : goal.invariant-loop-c
invariant-loop-c l = HasBegun l.o (take l.c-index l.named) l.walk
