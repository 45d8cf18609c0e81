use Rattle.std.proofs.Common.{◌≡◌, map, take}
use Rattle.std.specs.Prelude.{fold, max}
use Rattle.guard_cli.proofs.texts.greatest_factor.Given as goal

abbrev pub invariant-loop-counted : goal.invariant-loop-counted
invariant-loop-counted l = l.factor ≡ fold max 1 (map (λ n. n.factor) (take l.counted-index l.counts))
