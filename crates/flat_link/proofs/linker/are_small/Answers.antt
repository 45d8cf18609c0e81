use Rattle.std.proofs.Common.{arith}
use Rattle.flat_link.proofs.linker.are_small.Goals as goal

pub returns : goal.returns
returns c = λ x. omega (arith, c.type_inv.bytes x)
