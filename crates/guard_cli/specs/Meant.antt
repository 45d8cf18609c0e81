-- The work that a line of words means.
use Rattle.guard_words.specs.Meanings.{Meaning, harden, link, run, list, make}
use Rattle.guard_cli.specs.Works.{Work}
use Rattle.guard_cli.specs.HardenWork.{harden_work}
use Rattle.guard_cli.specs.LinkWork.{link_work}
use Rattle.guard_cli.specs.MachineRuns.{run_work}
use Rattle.guard_cli.specs.ListWork.{list_work}
use Rattle.guard_cli.specs.MakeWork.{make_work}

abbrev pub work_of : Meaning → Work
work_of (harden pairs) = harden_work pairs
work_of (link l) = link_work l
work_of (run r) = run_work r
work_of (list input) = list_work input
work_of (make m) = make_work m
