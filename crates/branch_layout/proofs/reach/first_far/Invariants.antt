use Rattle.std.proofs.Common.{◌≡◌, ◌<◌, ◌≤◌, ℕ, Some}
use Rattle.std.specs.Prelude.{slice_get}
use Rattle.seq_core.specs.declared.units.Unit.{Unit as SeqUnit}
use Rattle.branch_layout.specs.Placings.{Stretch}
use Rattle.branch_layout.specs.Faults.{LoadsFrom}
use Rattle.branch_layout.proofs.reach.first_far.Given as goal

-- none so far
abbrev pub invariant-loop-k : goal.invariant-loop-k
invariant-loop-k l = (i : ℕ) (u : SeqUnit) (s : Stretch) (d : ℕ) → i < l.k → slice_get l.units i ≡ Some u → slice_get l.placing.units i ≡ Some s → LoadsFrom l.placing u s d → d ≤ 4095
