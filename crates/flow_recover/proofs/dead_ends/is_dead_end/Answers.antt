use Rattle.std.proofs.Common.{sym, ◌∙◌, arith, inl, inr}
use Rattle.std.proofs.lemmas.Bool.{true≢false}
use Rattle.flow_recover.proofs.DeadEndFacts.{over_nop, nop_inside, stopped}
use Rattle.flow_recover.proofs.dead_ends.is_dead_end.Goals as goal
use Rattle.flow_recover.proofs.dead_ends.is_dead_end.Goals.{then-loop-at-test+else-is_nop_at, else-loop-at-test}

pub overflow_add-at : goal.overflow_add-at
overflow_add-at c =
    let inside = nop_inside c.args.o.now c.args.section c.loop-at.at c.sound.ensures c.requires.within (c.is_nop_at.ensures.0 c.if-is_nop_at.true) in
    omega arith

pub loop-at-preserved : goal.loop-at-preserved
loop-at-preserved c =
    over_nop c.args.o.now c.args.section c.loop-at.at c.args.offset (λ l. true≢false (sym (c.is_limit.ensures.1 l) ∙ c.loop-at-test.true)) (c.is_nop_at.ensures.0 c.if-is_nop_at.true) c.loop-at.invariant

pub returns : goal.returns
returns c =
    elim c.loop-at-test.branch [
      | then-loop-at-test+else-is_nop_at w ↦
          stopped c.args.o.now c.args.section c.loop-at.at c.args.offset c.is_limit-2.result c.is_limit-2.ensures (inr (λ n. true≢false (sym (w.is_nop_at.ensures.1 n) ∙ w.if-is_nop_at.false))) c.loop-at.invariant
      | else-loop-at-test w ↦
          stopped c.args.o.now c.args.section c.loop-at.at c.args.offset c.is_limit-2.result c.is_limit-2.ensures (inl (c.is_limit.ensures.0 w.loop-at-test.false)) c.loop-at.invariant
    ]
