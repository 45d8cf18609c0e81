use Rattle.std.proofs.Common.{◌≡◌, ◌<◌, ◌∙◌, length, arith, sym, ap, true, false, refl}
use Rattle.std.specs.Prelude.{slice_set}
use Rattle.thumb_instr.specs.Operands.{has}
use Rattle.thumb_table.specs.declared.cores.Core.{Core as Registers}
use Rattle.thumb_table.proofs.ListLemmas.{rest_first, rest_last, rest_has, rest_lacks, load_step}
use Rattle.thumb_table.proofs.multiple.load_list.Goals as goal
use Rattle.thumb_table.proofs.multiple.load_list.Goals.{then-has, else-has}

pub each-init : goal.each-init
each-init c = record { same = rw rest_first refl; others = refl; within = rw rest_first (omega arith) }

pub overflow_add-at : goal.overflow_add-at
overflow_add-at c =
    let there : has c.args.list.0 c.each.k ≡ true = rw (← c.numbered.ensures, ← c.has.ensures) c.if-has.true in
    omega (arith, ap length (rest_has c.args.list.0 c.each.k c.each-test.true there))

pub each-preserved : goal.each-preserved
each-preserved c =
    let list = c.args.list.0 in
    let m = c.args.m.now in
    let k = c.each.k in
    let at = c.each.at in
    let below : k < 15 = c.each-test.true in
    elim c.if-has.branch [
      | then-has w ↦
          let there : has list k ≡ true = rw (← c.numbered.ensures, ← c.has.ensures) w.if-has.true in
          record {
            same = rw (w.s-is, w.at-is, w.word_at.ensures, w.from.ensures) (sym (load_step m at list k c.each.s.r below there) ∙ c.each.invariant.same);
            others = rw w.s-is (ap (λ (t : Registers). record t { r = slice_set c.each.s.r k w.word_at.result.word }) c.each.invariant.others);
            within = omega (arith, ap length (rest_has list k below there), w.at-is);
          }
      | else-has w ↦
          let absent : has list k ≡ false = rw (← c.numbered.ensures, ← c.has.ensures) w.if-has.false in
          record {
            same = rw (w.s-is, w.at-is, ← rest_lacks list k below absent) c.each.invariant.same;
            others = rw w.s-is c.each.invariant.others;
            within = omega (arith, ap length (rest_lacks list k below absent), w.at-is);
          }
    ]

pub returns : goal.returns
returns c =
    let e = rw (rest_last c.args.list.0 c.each.k c.each-test.false) at c.each.invariant.same in
    rw (← e) c.each.invariant.others
