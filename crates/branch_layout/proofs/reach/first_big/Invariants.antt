use Rattle.std.proofs.Common.{◌<◌, ℕ}
use Rattle.branch_layout.specs.Faults.{IsBig}
use Rattle.branch_layout.proofs.reach.first_big.Given as goal

abbrev pub invariant-loop-j : goal.invariant-loop-j
invariant-loop-j l = (i : ℕ) → i < l.j → ¬ IsBig l.sizes i
