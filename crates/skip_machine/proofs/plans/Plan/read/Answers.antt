use Rattle.std.proofs.Common.{◌<◌, List, ℕ, length, refl, sym, subst}
use Rattle.skip_machine.specs.Plans.{IsPlanText, AreNumbers}
use Rattle.skip_machine.proofs.PlanTexts.{plan_is_numbers, only_numbers, some_there}
use Rattle.skip_machine.proofs.plans.Plan.read.Goals as goal

-- The numbers of a text that is a plan are its schedule.
read_is : (copies : ℕ) (text numbers : List ℕ) → 0 < length text → (steps : List ℕ) × IsPlanText copies text steps → AreNumbers text numbers → IsPlanText copies text numbers
read_is copies text numbers some found are =
    subst (IsPlanText copies text) (only_numbers text found.0 numbers (plan_is_numbers copies text found.0 some found.1) are) found.1

pub unreachable-requires : goal.unreachable-requires
unreachable-requires c =
    let some : 0 < length c.args.text.now = some_there (length c.args.text.now) (sym c.if-is_empty.ensures) in
    let none = rw c.in-Ok-None.field-0-is at c.in-Ok-None.ensures in
    let found = c.if-not-is_plan.ensures.0 refl in
    none found.0 (plan_is_numbers c.args.copies c.args.text.now found.0 some found.1)

pub invariant_of-result-in-Ok-Some : goal.invariant_of-result-in-Ok-Some
invariant_of-result-in-Ok-Some c =
    let some : 0 < length c.args.text.now = some_there (length c.args.text.now) (sym c.if-is_empty.ensures) in
    let are : AreNumbers c.args.text.now c.in-Ok-Some.numbers.items = rw c.in-Ok-Some.field-0-is at c.in-Ok-Some.ensures in
    let plan = read_is c.args.copies c.args.text.now c.in-Ok-Some.numbers.items some (c.if-not-is_plan.ensures.0 refl) are in
    plan.legal.rises

pub returns-in-Ok-Some-clause-plan : goal.returns-in-Ok-Some-clause-plan
returns-in-Ok-Some-clause-plan c =
    let some : 0 < length c.args.text.now = some_there (length c.args.text.now) (sym c.if-is_empty.ensures) in
    let are : AreNumbers c.args.text.now c.in-Ok-Some.numbers.items = rw c.in-Ok-Some.field-0-is at c.in-Ok-Some.ensures in
    read_is c.args.copies c.args.text.now c.in-Ok-Some.numbers.items some (c.if-not-is_plan.ensures.0 refl) are
