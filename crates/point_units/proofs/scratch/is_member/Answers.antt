use Rattle.std.proofs.Common.{ap, ℕ, nat_eq, ◌/◌, ◌%◌, ◌^◌}
use Rattle.thumb_instr.specs.Operands.{has}
use Rattle.point_units.proofs.scratch.is_member.Goals as goal

pub returns : goal.returns
unfolding has
returns c = ap (λ (n : ℕ). nat_eq (n / 2 ^ c.args.k % 2) 1) (c.bits.ensures tt)
