use Rattle.std.proofs.Common.{◌≡◌, map}
use Rattle.std.specs.List.{range_with_len}
use Rattle.gen_object.specs.Generated.{call}
use Rattle.gen_object.proofs.objects.calls_of.Given as goal

abbrev pub invariant-loop-k : goal.invariant-loop-k
invariant-loop-k l = l.relocs.items ≡ map call (range_with_len 0 l.k)
