use Rattle.std.proofs.Common.{◌≡◌, ◌*◌}
use Rattle.std.specs.List.{flat_map, range_with_len}
use Rattle.skip_machine.specs.Draws.{draws}
use Rattle.gen_object.specs.Generated.{function_bytes}
use Rattle.gen_object.proofs.code.code_bytes.Given as goal

abbrev pub invariant-loop-k : goal.invariant-loop-k
invariant-loop-k l = record {
  bytes : l.code.items ≡ flat_map (function_bytes l.seed l.count) (range_with_len 0 l.k);
  drawn : l.x ≡ draws l.seed (3 * l.k);
}
