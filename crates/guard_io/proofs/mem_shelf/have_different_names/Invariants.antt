use Rattle.std.proofs.Common.{◌≡◌, drop}
use Rattle.guard_io.specs.Memory.{names_differ}
use Rattle.guard_io.proofs.mem_shelf.have_different_names.Given as goal

abbrev pub invariant-loop-i : goal.invariant-loop-i
invariant-loop-i l = names_differ l.files ≡ names_differ (drop l.i l.files)
