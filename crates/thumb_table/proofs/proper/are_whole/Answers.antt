use Rattle.std.proofs.Common.{◌≡◌, ◌<◌, ◌∙◌, arith, sym, ap, true, false, refl}
use Rattle.std.proofs.lemmas.Bool.{false≢true}
use Rattle.mark_word.specs.declared.cells.Joined.{Joined}
use Rattle.thumb_instr.specs.Operands.{has}
use Rattle.thumb_table.specs.Effects.{word_at}
use Rattle.thumb_table.proofs.ListLemmas.{rest_first, rest_lacks, whole_on, whole_back, whole_last, negated, not_negated}
use Rattle.thumb_table.proofs.proper.are_whole.Goals as goal
use Rattle.thumb_table.proofs.proper.are_whole.Goals.{then-has+else-not-word_at, else-has}

pub each-init : goal.each-init
each-init c = record {
  onwards = rw (c.from-at.ensures, rest_first) (λ h. h);
  backwards = rw (c.from-at.ensures, rest_first) (λ h. h);
  within = omega (arith, c.from-at.ensures);
}

pub returns-then-not-word_at : goal.returns-then-not-word_at
returns-then-not-word_at c =
    let list = c.args.list.0 in
    let there : has list c.each.k ≡ true = rw (← c.numbered.ensures, ← c.has.ensures) c.if-has.true in
    let part : (word_at c.args.m.now c.each.at).whole ≡ false = ap (λ (j : Joined). j.whole) (sym c.word_at.ensures) ∙ negated _ c.if-not-word_at.true in
    (λ t. absurd (false≢true t), λ all. absurd (false≢true (sym part ∙ (whole_back c.args.m.now c.each.at list c.each.k c.each-test.true there (c.each.invariant.backwards all)).0)))

pub each-preserved : goal.each-preserved
each-preserved c =
    let list = c.args.list.0 in
    let m = c.args.m.now in
    let k = c.each.k in
    let at = c.each.at in
    let below : k < 15 = c.each-test.true in
    elim c.if-has.branch [
      | then-has+else-not-word_at w ↦
          let there : has list k ≡ true = rw (← c.numbered.ensures, ← c.has.ensures) w.if-has.true in
          let whole : (word_at m at).whole ≡ true = ap (λ (j : Joined). j.whole) (sym w.word_at.ensures) ∙ not_negated _ w.if-not-word_at.false in
          record {
            onwards = rw w.at-is (λ behind. c.each.invariant.onwards (whole_on m at list k below there whole behind));
            backwards = rw w.at-is (λ all. (whole_back m at list k below there (c.each.invariant.backwards all)).1);
            within = omega (arith, w.at-is);
          }
      | else-has w ↦
          let absent : has list k ≡ false = rw (← c.numbered.ensures, ← c.has.ensures) w.if-has.false in
          record {
            onwards = rw (w.at-is, ← rest_lacks list k below absent) c.each.invariant.onwards;
            backwards = rw (w.at-is, ← rest_lacks list k below absent) c.each.invariant.backwards;
            within = omega (arith, w.at-is);
          }
    ]

pub returns : goal.returns
returns c = (λ _. c.each.invariant.onwards (whole_last c.args.m.now c.each.at c.args.list.0 c.each.k c.each-test.false), λ _. refl)
