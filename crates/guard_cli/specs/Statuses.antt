-- The exit status of each ending.
use Rattle.std.specs.Prelude.{ℕ}
use Rattle.guard_cli.specs.declared.endings.Ending.{Ending}
use Rattle.guard_cli.specs.declared.endings.Ending.TheVariants.{Done, Refused, Usage, ReadFault, WriteFault, PrintFault, NoMemory, Stopped}

abbrev pub status_of : Ending → ℕ
status_of Done = 0
status_of (Refused _) = 1
status_of Usage = 2
status_of ReadFault = 3
status_of WriteFault = 3
status_of PrintFault = 3
status_of NoMemory = 4
status_of (Stopped _) = 5
