use Rattle.std.proofs.Common.{◌≡◌, ◌≤◌, ◌+◌, ◌*◌, drop}
use Rattle.branch_layout.specs.Copies.{length_of as total_bytes}
use Rattle.branch_layout.proofs.copies.length_of.Given as goal

abbrev pub invariant-loop-width : goal.invariant-loop-width
invariant-loop-width l = record { total : l.total + total_bytes (drop l.width-index l.widths) ≡ total_bytes l.widths; few : l.total ≤ 4 * l.width-index }
