use Rattle.std.proofs.Common.{take}
use Rattle.guard_cli.proofs.FirstRefusals.{FoundIn}
use Rattle.guard_cli.proofs.harden.harden_all.Given as goal

abbrev pub invariant-loop-k : goal.invariant-loop-k
invariant-loop-k l = FoundIn (take l.k l.objects) l.hardened.items l.first
