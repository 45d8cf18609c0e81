use Rattle.std.proofs.Common.{◌≡◌, ◌++◌, drop}
use Rattle.branch_layout.specs.Copies.{copies_of as copies_in}
use Rattle.branch_layout.proofs.copies.copies_of.Given as goal

abbrev pub invariant-loop-step : goal.invariant-loop-step
invariant-loop-step l = l.copies.items ++ copies_in (drop l.step-index l.steps) ≡ copies_in l.steps
