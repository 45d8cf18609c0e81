use Rattle.std.proofs.Common.{length, ap, arith}
use Rattle.thumb_instr.specs.Operands.{has}
use Rattle.point_units.proofs.FreeFacts.{few_scratch}
use Rattle.point_units.proofs.lacks.lack.Goals as goal

pub overflow_cast-result : goal.overflow_cast-result
overflow_cast-result c =
    let few = few_scratch (has c.args.live.0) c.args.i.now in
    let same = ap length c.in_ok-scratch_of.ensures in
    omega (arith, few, same, c.len-have.ensures)
