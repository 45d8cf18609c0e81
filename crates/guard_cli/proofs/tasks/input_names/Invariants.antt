use Rattle.std.proofs.Common.{◌≡◌, ◌++◌, length, map, string_bytes}
use Rattle.guard_words.specs.Words.{Pair}
use Rattle.guard_words.specs.Tasks.{pairs_in}
use Rattle.guard_cli.proofs.tasks.input_names.Given as goal

abbrev pub invariant-loop-rest : goal.invariant-loop-rest
invariant-loop-rest l =
    map string_bytes l.copied.items ++ map (λ (p : Pair). p.input) (pairs_in (map string_bytes l.rest)) ≡ map (λ (p : Pair). p.input) (pairs_in (map string_bytes l.names))

abbrev pub decreases-loop-rest : goal.decreases-loop-rest
decreases-loop-rest l = length l.rest
