use Rattle.std.proofs.Common.{◌≡◌, map, take}
use Rattle.elf_read.specs.Faults.{dropped_count}
use Rattle.guard_cli.specs.Inputs.{AreReadAs}
use Rattle.guard_cli.specs.Steps.{contents_of}
use Rattle.guard_cli.proofs.loading.read_all.Given as goal

abbrev pub invariant-loop-k : goal.invariant-loop-k
invariant-loop-k l = record {
  read : AreReadAs l.limit (contents_of (take l.k l.files)) l.objects.items;
  dropped : l.dropped.items ≡ map dropped_count (contents_of (take l.k l.files));
}
