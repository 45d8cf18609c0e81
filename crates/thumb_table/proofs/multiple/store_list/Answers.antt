use Rattle.std.proofs.Common.{◌≡◌, ◌<◌, ◌∙◌, length, arith, sym, ap, true, false, refl}
use Rattle.mark_word.specs.Marks.{pieces}
use Rattle.thumb_instr.specs.Operands.{has}
use Rattle.thumb_table.specs.States.{read, store_all}
use Rattle.thumb_table.specs.Effects.{from}
use Rattle.thumb_table.specs.CoreStates.{alone}
use Rattle.thumb_table.proofs.ListLemmas.{rest_first, rest_last, rest_has, rest_lacks, store_step, length_stored}
use Rattle.thumb_table.proofs.MemoryLemmas.{lies_where}
use Rattle.thumb_table.proofs.multiple.store_list.Goals as goal
use Rattle.thumb_table.proofs.multiple.store_list.Goals.{then-has, else-has}

pub each-init : goal.each-init
each-init c = record { same = rw rest_first refl; place = refl; long = refl; starts = c.requires.starts; ends = rw rest_first c.requires.within }

pub store_word-requires-clause-lies : goal.store_word-requires-clause-lies
store_word-requires-clause-lies c =
    let there : has c.args.list.0 c.each.k ≡ true = rw (← c.numbered-r.ensures, ← c.has.ensures) c.if-has.true in
    lies_where c.each.m c.each.at 4 (omega arith) (omega (arith, ap length (rest_has c.args.list.0 c.each.k c.each-test.true there)))

pub overflow_add-at : goal.overflow_add-at
overflow_add-at c =
    let there : has c.args.list.0 c.each.k ≡ true = rw (← c.numbered-r.ensures, ← c.has.ensures) c.if-has.true in
    omega (arith, ap length (rest_has c.args.list.0 c.each.k c.each-test.true there))

pub each-preserved : goal.each-preserved
each-preserved c =
    let list = c.args.list.0 in
    let x = alone c.args.s.now in
    let base = c.args.m.now.base in
    let k = c.each.k in
    let at = c.each.at in
    let below : k < 15 = c.each-test.true in
    elim c.if-has.branch [
      | then-has w ↦
          let there : has list k ≡ true = rw (← c.numbered-r.ensures, ← c.has.ensures) w.if-has.true in
          let word : w.word.result ≡ read x k = rw (← c.numbered-r.ensures) w.word.ensures in
          let cells : c.if-has.m.cells ≡ store_all base (from at (pieces (read x k))) c.each.m.cells = rw (w.m-is, w.store_word.ensures, word, c.each.invariant.place) refl in
          record {
            same = rw (cells, w.at-is) (sym (store_step x base at list k c.each.m.cells below there) ∙ c.each.invariant.same);
            place = rw (w.m-is, w.store_word.ensures) c.each.invariant.place;
            long = rw cells (length_stored base (from at (pieces (read x k))) c.each.m.cells ∙ c.each.invariant.long);
            starts = omega (arith, w.at-is);
            ends = omega (arith, ap length (rest_has list k below there), w.at-is);
          }
      | else-has w ↦
          let absent : has list k ≡ false = rw (← c.numbered-r.ensures, ← c.has.ensures) w.if-has.false in
          record {
            same = rw (w.m-is, w.at-is, ← rest_lacks list k below absent) c.each.invariant.same;
            place = rw w.m-is c.each.invariant.place;
            long = rw w.m-is c.each.invariant.long;
            starts = omega (arith, w.at-is);
            ends = omega (arith, ap length (rest_lacks list k below absent), w.at-is);
          }
    ]

pub returns : goal.returns
returns c =
    let e = rw (rest_last c.args.list.0 c.each.k c.each-test.false) at c.each.invariant.same in
    rw (← e, ← c.each.invariant.place) refl
