use Rattle.std.proofs.Common.{◌≡◌, ◌<◌, ◌≤◌, ◌+◌, ◌∙◌, [], ◌∷◌, ◌++◌, length, take, arith, sym, ap}
use Rattle.std.proofs.lemmas.List.{length-take-le}
use Rattle.seq_core.specs.Built.{as_steps}
use Rattle.seq_core.specs.declared.steps.Goal.TheVariants.{Nowhere}
use Rattle.seq_core.proofs.Made.{steps_more, length_steps, steps_all, series_is}
use Rattle.seq_core.proofs.making.sequence.Goals as goal

pub push-requires-clause-room : goal.push-requires-clause-room
push-requires-clause-room c =
    let lt : c.each.i-index < length c.args.instrs.now = c.each-test.true in
    let n = ap length c.each.invariant.steps ∙ length_steps c.args.copies (take c.each.i-index c.args.instrs.now) ∙ length-take-le c.each.i-index c.args.instrs.now (omega arith) in
    omega arith

pub push-requires-clause-open : goal.push-requires-clause-open
push-requires-clause-open c =
    let lt : c.each.i-index < length c.args.instrs.now = c.each-test.true in
    let n = ap length c.each.invariant.steps ∙ length_steps c.args.copies (take c.each.i-index c.args.instrs.now) ∙ length-take-le c.each.i-index c.args.instrs.now (omega arith) in
    omega arith

pub each-preserved : goal.each-preserved
each-preserved c =
    let lt : c.each.i-index < length c.args.instrs.now = c.each-test.true in
    record {
      steps = ap (λ s. s.steps) c.push.ensures
          ∙ ap (λ l. l ++ record { instr = c.i-item.result; goal = Nowhere; copies = c.args.copies } ∷ []) c.each.invariant.steps
          ∙ ap (λ i. as_steps c.args.copies (take c.each.i-index c.args.instrs.now) ++ record { instr = i; goal = Nowhere; copies = c.args.copies } ∷ []) c.i-item.is
          ∙ sym (steps_more c.args.copies c.args.instrs.now c.each.i-index c.i-item.result lt);
      landing = ap (λ s. s.landing) c.push.ensures ∙ ap (λ n. n + 1) c.each.invariant.landing;
    }

pub returns : goal.returns
returns c =
    let within : c.each.i-index ≤ length c.args.instrs.now = c.each.auto.i-index-end in
    let past : length c.args.instrs.now ≤ c.each.i-index = c.each-test.false in
    let landing : c.each.s.landing ≡ length c.args.instrs.now = let l = c.each.invariant.landing in omega arith in
    series_is _ _ _ (c.each.invariant.steps ∙ steps_all c.args.copies c.args.instrs.now c.each.i-index past) landing
