use Rattle.std.proofs.Common.{◌≡◌, ◌++◌}
use Rattle.thumb_table.specs.Effects.{registers}
use Rattle.seq_core.proofs.Made.{held, rest}
use Rattle.seq_core.proofs.making.sole_register.Given as goal

abbrev pub invariant-each : goal.invariant-each
invariant-each l = registers l.list.0 ≡ held l.found ++ rest l.list.0 l.k
