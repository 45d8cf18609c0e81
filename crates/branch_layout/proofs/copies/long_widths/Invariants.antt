use Rattle.std.proofs.Common.{take}
use Rattle.branch_layout.specs.Widths.{AreLong}
use Rattle.branch_layout.proofs.copies.long_widths.Given as goal

abbrev pub invariant-loop-copy : goal.invariant-loop-copy
invariant-loop-copy l = AreLong (take l.copy-index l.copies) l.widths.items
