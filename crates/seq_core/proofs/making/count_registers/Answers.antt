use Rattle.std.proofs.Common.{◌≡◌, ◌<◌, length, arith, ap, true, false}
use Rattle.thumb_instr.specs.Operands.{has}
use Rattle.seq_core.proofs.Made.{rest_first, rest_last, rest_has, rest_lacks}
use Rattle.seq_core.proofs.making.count_registers.Goals as goal
use Rattle.seq_core.proofs.making.count_registers.Goals.{then-has, else-has}

pub each-init : goal.each-init
each-init c = record { counted = rw rest_first (omega arith); within = omega arith }

pub each-preserved : goal.each-preserved
each-preserved c =
    let list = c.args.list.0 in
    let k = c.each.k in
    let below : k < 15 = omega arith in
    elim c.if-has.branch [
      | then-has w ↦
          let there : has list k ≡ true = rw (← c.numbered.ensures, ← c.has.ensures) w.if-has.true in
          record { counted = omega (arith, ap length (rest_has list k below there)); within = omega arith }
      | else-has w ↦
          let absent : has list k ≡ false = rw (← c.numbered.ensures, ← c.has.ensures) w.if-has.false in
          record { counted = omega (arith, ap length (rest_lacks list k below absent)); within = omega arith }
    ]

pub returns-clause-value : goal.returns-clause-value
returns-clause-value c = omega (arith, ap length (rest_last c.args.list.0 c.each.k c.each-test.false))
