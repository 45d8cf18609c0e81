-- Fetched instructions as the machine has them.
use Rattle.thumb_table.specs.Steps.{Fetched}
use Rattle.thumb_table.specs.CoreStates.{width_of}
use Rattle.skip_machine.specs.declared.fetches.Fetched.{Fetched as Half}

abbrev pub as_fetched : Half → Fetched
as_fetched f = record { first = f.first; second = f.second; width = width_of f.wide }
