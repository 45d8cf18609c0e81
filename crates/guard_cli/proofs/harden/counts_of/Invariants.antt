use Rattle.std.proofs.Common.{◌≡◌, ◌++◌, drop}
use Rattle.guard_cli.specs.HardenSteps.{all_counts}
use Rattle.guard_cli.proofs.harden.counts_of.Given as goal

abbrev pub invariant-loop-k : goal.invariant-loop-k
invariant-loop-k l =
    l.counts.items ++ all_counts (drop l.k l.inputs.objects.items) (drop l.k l.inputs.dropped.items) (drop l.k l.hardened) ≡ all_counts l.inputs.objects.items l.inputs.dropped.items l.hardened
