-- What the words say of the steps that are skipped.
use Rattle.std.proofs.Common.{◌≡◌, ℕ, Option, Some, None, List, [], lit≤}
use Rattle.skip_machine.specs.Plans.{IsPlanText}
use Rattle.skip_machine.proofs.PlanSteps.{empty_plan, only_empty}
use Rattle.guard_words.specs.Words.{AreSkips, listed}

-- without a word no step is skipped
pub empty_schedule : (skip seed : Option (List ℕ)) → skip ≡ None → seed ≡ None →
    ((steps : List ℕ) × IsPlanText 2 [] steps) × ((steps : List ℕ) → IsPlanText 2 [] steps → AreSkips skip seed (listed steps))
empty_schedule None None e f = (([], empty_plan 2 (lit≤ tt)), only_empty 2)
empty_schedule None (Some n) e f = absurd (cc)
empty_schedule (Some l) seed e f = absurd (cc)
