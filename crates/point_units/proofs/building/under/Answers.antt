use Rattle.std.proofs.Common.{sym, ◌∙◌}
use Rattle.point_units.proofs.GuardFacts.{without_guard}
use Rattle.point_units.proofs.building.under.Goals as goal

pub returns-in-None-clause-works : goal.returns-in-None-clause-works
returns-in-None-clause-works c = λ cond test i lost is d. without_guard cond test i lost c.args.copies _ (sym c.in-None.is ∙ is) d
