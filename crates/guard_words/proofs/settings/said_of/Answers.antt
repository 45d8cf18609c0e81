use Rattle.std.proofs.Common.{arith}
use Rattle.guard_words.proofs.NumberTexts.{number_given}
use Rattle.guard_words.proofs.settings.said_of.Goals as goal
use Rattle.guard_words.proofs.settings.said_of.Goals.{then-steps-eq0-via-then-steps-eq0, then-steps-eq0-via-else-steps-eq0+then-steps-gt10000000}

pub returns-then-steps-eq0 : goal.returns-then-steps-eq0
returns-then-steps-eq0 c = λ r said.
    let same = number_given c.args.options.now.steps c.in_ok-options.field-0 r.steps c.in_ok-steps.steps c.in_ok-options.was said.steps c.in_ok-steps.ensures in
    let low = said.some_steps in
    let high = said.few_steps in
    elim c.then-steps-eq0.branch [
      | then-steps-eq0-via-then-steps-eq0 w ↦ absurd (omega arith)
      | then-steps-eq0-via-else-steps-eq0+then-steps-gt10000000 w ↦ absurd (omega arith)
    ]
