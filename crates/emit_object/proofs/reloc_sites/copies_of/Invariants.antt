use Rattle.std.proofs.Common.{◌≡◌, ◌++◌, drop}
use Rattle.branch_layout.specs.Copies.{copies_of as copies_in}
use Rattle.emit_object.proofs.reloc_sites.copies_of.Given as goal

-- with those of the steps to come they are all
abbrev pub invariant-loop-step : goal.invariant-loop-step
invariant-loop-step l = l.copies.items ++ copies_in (drop l.step-index l.steps) ≡ copies_in l.steps
