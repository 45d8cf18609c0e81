use Rattle.std.proofs.Common.{◌≡◌, arith, sym, subst, ◌∙◌}
use Rattle.std.proofs.lemmas.Fmt.{decimal_injective}
use Rattle.skip_machine.specs.Paces.{IsNext}
use Rattle.skip_machine.proofs.plan_texts.next_step.Goals as goal
use Rattle.skip_machine.proofs.plan_texts.next_step.Goals.{then-step-pace-via-then-step-pace, then-step-pace-via-else-step-pace+then-step-ge9223372036854775808, then-step-pace-via-else-step-pace+else-step-ge9223372036854775808+then-copies-run_with}

pub returns-then-step-pace : goal.returns-then-step-pace
returns-then-step-pace c = λ n next.
    let below = next.small in
    let same : n ≡ c.in_ok-step.step = decimal_injective n c.in_ok-step.step (omega arith) (omega arith) (sym next.is ∙ c.in_ok-step.ensures) in
    let is : IsNext c.args.copies c.args.pace c.args.text.now c.in_ok-step.step = subst (IsNext c.args.copies c.args.pace c.args.text.now) same next in
    let small = is.small in
    let late = is.late in
    let few = is.few in
    elim c.then-step-pace.branch [
      | then-step-pace-via-then-step-pace w ↦ absurd (omega arith)
      | then-step-pace-via-else-step-pace+then-step-ge9223372036854775808 w ↦ absurd (omega arith)
      | then-step-pace-via-else-step-pace+else-step-ge9223372036854775808+then-copies-run_with w ↦ absurd (omega (arith, few, w.run_with.ensures, w.if-copies-run_with.true))
    ]
