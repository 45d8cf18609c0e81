use Rattle.std.proofs.Common.{ap}
use Rattle.std.specs.Option.{option_copied}
use Rattle.guard_words.proofs.Schedules.{empty_schedule}
use Rattle.guard_words.proofs.settings.schedule_of.Goals as goal

pub returns-in-None-None : goal.returns-in-None-None
returns-in-None-None c =
    empty_schedule (option_copied c.args.skip) (option_copied c.args.seed) (ap (λ o. option_copied o) c.in-None-None.is-0) (ap (λ o. option_copied o) c.in-None-None.is-1)
