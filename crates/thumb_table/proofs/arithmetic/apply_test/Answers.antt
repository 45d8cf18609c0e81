use Rattle.std.proofs.Common.{◌≡◌, refl}
use Rattle.thumb_table.specs.Values.{computed, tested}
use Rattle.thumb_table.specs.Effects.{change, operand, value}
use Rattle.thumb_table.specs.CoreStates.{core_of}
use Rattle.thumb_table.proofs.ResultLemmas.{operand_alone}
use Rattle.thumb_table.proofs.arithmetic.apply_test.Goals as goal

pub returns-clause-done : goal.returns-clause-done
unfolding change
returns-clause-done c = λ site m.
    let i = c.i.inside in
    let s = c.args.s.now in
    let made : computed (tested i.op) (value (core_of s m) i.n) (operand i.x (core_of s m)) s.c ≡ c.alu_result-r.result = cc (operand_alone i.x s m) in
    rw (← c.i.view_is, made, c.fall.ensures, c.set_flags.ensures) refl
