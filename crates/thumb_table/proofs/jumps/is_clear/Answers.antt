use Rattle.std.proofs.Common.{refl}
use Rattle.std.proofs.lemmas.Bool.{false≢true}
use Rattle.std.specs.Prelude.{Contains}
use Rattle.thumb_table.proofs.StopLemmas.{clear_here, not_clear, clear_next, clear_before}
use Rattle.thumb_table.proofs.jumps.is_clear.Goals as goal

pub returns-then-is_stop : goal.returns-then-is_stop
returns-then-is_stop c =
    let there : Contains c.args.code.now.stops c.walk.at = rw c.stops.ensures at (c.if-is_stop.ensures.0 refl) in
    (λ t. absurd (false≢true t), λ clear. absurd (not_clear c.args.code.now c.walk.at there (c.walk.invariant.backwards clear)))

pub returns-then-not-is_nop : goal.returns-then-not-is_nop
returns-then-not-is_nop c =
    let free : Contains c.args.code.now.stops c.walk.at → ⊥ = λ there. false≢true (c.if-is_stop.ensures.1 (rw c.stops.ensures there)) in
    (λ _. c.walk.invariant.onwards (clear_here c.args.code.now c.walk.at free (λ nop. false≢true (c.if-not-is_nop.ensures.1 nop))), λ _. refl)

pub walk-preserved : goal.walk-preserved
walk-preserved c =
    let free : Contains c.args.code.now.stops c.walk.at → ⊥ = λ there. false≢true (c.if-is_stop.ensures.1 (rw c.stops.ensures there)) in
    let nop = c.if-not-is_nop.ensures.0 refl in
    record {
      onwards = λ clear. c.walk.invariant.onwards (clear_next c.args.code.now c.walk.at free nop clear);
      backwards = λ clear. clear_before c.args.code.now c.walk.at nop (c.walk.invariant.backwards clear);
    }
