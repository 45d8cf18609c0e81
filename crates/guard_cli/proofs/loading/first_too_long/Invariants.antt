use Rattle.std.proofs.Common.{◌≤◌, take, length}
use Rattle.std.specs.Prelude.{All}
use Rattle.guard_cli.specs.Steps.{contents_of}
use Rattle.guard_cli.proofs.loading.first_too_long.Given as goal

abbrev pub invariant-loop-k : goal.invariant-loop-k
invariant-loop-k l = All (λ f. length f ≤ l.limit.file) (contents_of (take l.k l.files))
