use Rattle.std.proofs.Common.{arith}
use Rattle.guard_cli.proofs.harden.are_small.Goals as goal

pub returns : goal.returns
returns c = λ x. omega (arith, c.type_inv.bytes x)
