use Rattle.std.proofs.Common.{◌∙◌, sym, ap, arith}
use Rattle.std.specs.Prelude.{count_by}
use Rattle.std.specs.List.{range_with_len}
use Rattle.std.proofs.lemmas.List.{take_all}
use Rattle.std.proofs.lemmas.List.FromFn.{length-range_with_len}
use Rattle.thumb_table.specs.Schedules.{is_in}
use Rattle.make_run.proofs.SkipCounts.{counted_yes, counted_no}
use Rattle.make_run.proofs.calls.skips_of.Goals as goal
use Rattle.make_run.proofs.calls.skips_of.Goals.{then-holds, else-holds}

pub loop-i-preserved : goal.loop-i-preserved
loop-i-preserved c =
    let p = is_in c.args.plan.now in
    elim c.if-holds.branch [
      | then-holds w ↦
          let more = counted_yes p c.args.steps c.loop-i.i c.loop-i-test.true (sym c.holds.ensures ∙ w.if-holds.true) in
          record { counted = omega (arith, w.skips-is, more, c.loop-i.invariant.counted); few = omega (arith, w.skips-is, c.loop-i.invariant.few) }
      | else-holds w ↦
          let more = counted_no p c.args.steps c.loop-i.i c.loop-i-test.true (sym c.holds.ensures ∙ w.if-holds.false) in
          record { counted = omega (arith, w.skips-is, more, c.loop-i.invariant.counted); few = omega (arith, w.skips-is, c.loop-i.invariant.few) }
    ]

pub returns : goal.returns
returns c =
    let all = take_all c.loop-i.i (range_with_len 0 c.args.steps) (omega (arith, length-range_with_len 0 c.args.steps)) in
    c.loop-i.invariant.counted ∙ ap (count_by (is_in c.args.plan.now)) all
