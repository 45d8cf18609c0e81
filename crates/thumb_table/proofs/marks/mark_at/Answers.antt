use Rattle.std.proofs.Common.{◌≡◌, ℕ, ◌+◌, ◌-◌, ◌/◌, ◌<◌, length, get_or, arith, sym, ap, ◌∙◌, inl, inr}
use Rattle.std.proofs.lemmas.Bool.Decides.{eqb_tells, leb_tells}
use Rattle.thumb_table.proofs.StopLemmas.{rises}
use Rattle.thumb_table.proofs.MarkLemmas.{places, nowhere, place_of, length_places, no_mark, mark_here}
use Rattle.thumb_table.proofs.marks.mark_at.Goals as goal
use Rattle.thumb_table.proofs.marks.mark_at.Goals.{else-low-marks-via-then-low-marks+else-marks-low, else-low-marks-via-else-low-marks}

pub halve-preserved-then-marks-middle : goal.halve-preserved-then-marks-middle
halve-preserved-then-marks-middle c =
    let ms = c.args.marks.now in
    let middle = c.halve.low + (c.halve.high - c.halve.low) / 2 in
    record {
      order = omega arith;
      within = omega arith;
      below = λ k lt. omega (arith, place_of ms middle, length_places ms, rises (places ms) c.requires k middle (omega arith) (omega (arith, length_places ms)), c.if-marks-middle.true);
      above = c.halve.invariant.above;
    }

pub halve-preserved : goal.halve-preserved
halve-preserved c =
    let ms = c.args.marks.now in
    let middle = c.halve.low + (c.halve.high - c.halve.low) / 2 in
    record {
      order = omega arith;
      within = omega arith;
      below = c.halve.invariant.below;
      above = λ k le lt. omega (arith, place_of ms middle, length_places ms, rises (places ms) c.requires middle k le (omega (arith, length_places ms)), c.if-marks-middle.false);
    }

pub returns-then-marks-low : goal.returns-then-marks-low
returns-then-marks-low c = sym (mark_here c.args.marks.now c.args.address c.halve.low c.if-low-marks.true c.if-marks-low.true c.halve.invariant.below)

pub returns-else-low-marks : goal.returns-else-low-marks
returns-else-low-marks c =
    let ms = c.args.marks.now in
    let a = c.args.address in
    let low = c.halve.low in
    let behind : (k : ℕ) → low < k → k < length ms → get_or (places ms) low 0 < get_or (places ms) k 0 = λ k more lt. omega (arith, c.requires low (omega (arith, length_places ms)), rises (places ms) c.requires (low + 1) k (omega arith) (omega (arith, length_places ms))) in
    let none : low < length ms → (get_or ms low nowhere).at ≡ a → ⊥ = elim c.else-low-marks.branch [
      | else-low-marks-via-then-low-marks+else-marks-low w ↦ λ lt same. w.if-marks-low.false same
      | else-low-marks-via-else-low-marks w ↦ λ lt same. absurd (omega arith)
    ] in
    sym (no_mark ms a (λ k lt same. elim (leb_tells low k) [
      | inr p ↦ absurd (omega (arith, c.halve.invariant.below k (omega (arith, p.1))))
      | inl p ↦ elim (eqb_tells low k) [
        | inl q ↦ none (omega arith) (sym (place_of ms low) ∙ ap (λ j. get_or (places ms) j 0) q.1 ∙ same)
        | inr q ↦ absurd (omega (arith, behind k (omega (arith, q.1)) lt, c.halve.invariant.above low (omega arith) (omega arith)))
      ]
    ]))
