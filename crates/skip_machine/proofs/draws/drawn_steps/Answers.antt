use Rattle.std.proofs.Common.{◌≡◌, ◌<◌, ◌+◌, ◌-◌, ◌^◌, ◌++◌, ◌∷◌, [], ℕ, suc, true, refl, sym, ap, ◌∙◌, arith}
use Rattle.std.proofs.lemmas.Bool.{false≢true}
use Rattle.mark_word.specs.Formulas.{bit}
use Rattle.skip_machine.specs.Draws.{next_draw, draws, skipped_before}
use Rattle.skip_machine.proofs.DrawnPlans.{drawn_first, row_first, drawn_more, drawn_on, row_grows, row_ends, row_tells, row_full, high_bit, low_bit}
use Rattle.skip_machine.proofs.draws.drawn_steps.Goals as goal
use Rattle.skip_machine.proofs.draws.drawn_steps.Goals.{then-x-ge2147483648+then-row-copies+in_ok-push, else-x-ge2147483648, else-x-ge2147483648-via-then-x-ge2147483648+else-row-copies, else-x-ge2147483648-via-else-x-ge2147483648}

pub loop-step-init : goal.loop-step-init
loop-step-init c =
    let none : c.new-skipped.result.items ≡ [] = c.new-skipped.ensures.items in
    record {
      number = refl;
      word = omega (arith, c.ranges.seed.fits);
      plan = rw none (drawn_first c.args.seed c.args.copies);
      row = rw none (row_first c.args.copies c.requires);
    }

pub loop-step-preserved : goal.loop-step-preserved
loop-step-preserved c =
    let h = c.loop-step.invariant in
    let i : ℕ = c.loop-step.step in
    let next : i + 1 ≡ suc i = omega arith in
    let drawn : c.next_draw-x.result ≡ draws c.args.seed (suc i) = c.next_draw-x.ensures ∙ ap next_draw h.number in
    let word : c.next_draw-x.result < 2 ^ 32 = c.next_draw-x.type_inv in
    let tie : bit c.next_draw-x.result 31 ≡ bit (draws c.args.seed (suc i)) 31 = ap (λ x. bit x 31) drawn in
    elim c.if-x-ge2147483648.branch [
      | then-x-ge2147483648+then-row-copies+in_ok-push w ↦
          let pushed : c.if-x-ge2147483648.skipped.items ≡ c.loop-step.skipped.items ++ i ∷ [] = ap (λ v. v.items) w.skipped-is ∙ w.in_ok-push.ensures.items in
          let free = row_tells c.args.copies c.loop-step.skipped.items c.loop-step.row i h.row w.if-row-copies.true in
          record {
            number = drawn ∙ ap (draws c.args.seed) (sym next);
            word = word;
            plan = rw pushed (drawn_more c.args.seed c.args.copies c.loop-step.skipped.items i h.plan (sym tie ∙ high_bit c.next_draw-x.result word w.if-x-ge2147483648.true) free);
            row = rw (pushed, w.row-is) (row_grows c.args.seed c.args.copies c.loop-step.skipped.items c.loop-step.row i h.row w.if-row-copies.true);
          }
      | else-x-ge2147483648 w ↦
          let kept : c.if-x-ge2147483648.skipped.items ≡ c.loop-step.skipped.items = ap (λ v. v.items) w.skipped-is in
          let full : bit (draws c.args.seed (suc i)) 31 ≡ true → skipped_before c.loop-step.skipped.items (c.args.copies - 1) i ≡ true = elim w.else-x-ge2147483648.branch [
            | else-x-ge2147483648-via-then-x-ge2147483648+else-row-copies v ↦ λ set. row_full c.args.copies c.loop-step.skipped.items c.loop-step.row i h.row v.if-row-copies.false
            | else-x-ge2147483648-via-else-x-ge2147483648 v ↦ λ set. absurd (false≢true (sym (low_bit c.next_draw-x.result v.if-x-ge2147483648.false) ∙ tie ∙ set))
          ] in
          record {
            number = drawn ∙ ap (draws c.args.seed) (sym next);
            word = word;
            plan = rw kept (drawn_on c.args.seed c.args.copies c.loop-step.skipped.items i h.plan full);
            row = rw (kept, w.row-is) (row_ends c.args.seed c.args.copies c.loop-step.skipped.items i h.plan);
          }
    ]
