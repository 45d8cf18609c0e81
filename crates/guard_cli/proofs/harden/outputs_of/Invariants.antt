use Rattle.std.proofs.Common.{◌≡◌, ◌++◌, drop, take, length, map, string_bytes}
use Rattle.std.specs.Prelude.{All}
use Rattle.guard_words.specs.Tasks.{pairs_in}
use Rattle.guard_cli.specs.HardenSteps.{CanBeSaved, saves_by}
use Rattle.guard_cli.specs.Steps.{saves_of}
use Rattle.guard_cli.proofs.harden.outputs_of.Given as goal

abbrev pub invariant-loop-made : goal.invariant-loop-made
invariant-loop-made l = record {
  saves : saves_of l.outputs.items ++ saves_by (pairs_in (map string_bytes l.rest)) (drop l.made-index l.hardened) ≡ saves_by (pairs_in (map string_bytes l.names)) l.hardened;
  left : length (pairs_in (map string_bytes l.rest)) ≡ length (drop l.made-index l.hardened);
  sound : All (λ h. CanBeSaved h.object) (take l.made-index l.hardened);
}
