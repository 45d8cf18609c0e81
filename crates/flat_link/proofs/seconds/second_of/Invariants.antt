use Rattle.std.proofs.Common.{take, map}
use Rattle.flat_link.specs.Known.{defined_of, IsFirstSecond}
use Rattle.flat_link.proofs.seconds.second_of.Given as goal

abbrev pub invariant-loop-known : goal.invariant-loop-known
invariant-loop-known l = IsFirstSecond l.names.objects.now (map defined_of (take l.known-index l.all)) l.first
