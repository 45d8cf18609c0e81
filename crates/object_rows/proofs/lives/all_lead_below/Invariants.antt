use Rattle.std.proofs.Common.{◌<◌, ℕ, take}
use Rattle.std.specs.Prelude.{All}
use Rattle.liveness.specs.Paths.{Leads}
use Rattle.object_rows.proofs.lives.all_lead_below.Given as goal

abbrev pub invariant-loop-x : goal.invariant-loop-x
invariant-loop-x l = All (λ x. (q : ℕ) → Leads x q → q < l.fn.n) (take l.x-index l.points)
