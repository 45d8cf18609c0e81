use Rattle.std.proofs.Common.{◌≡◌, ◌+◌, ◌≤◌, length}
use Rattle.thumb_table.specs.Effects.{registers}
use Rattle.seq_core.proofs.Made.{rest}
use Rattle.seq_core.proofs.making.count_registers.Given as goal

abbrev pub invariant-each : goal.invariant-each
invariant-each l = record {
  counted : l.count + length (rest l.list.0 l.k) ≡ length (registers l.list.0);
  within : l.count ≤ l.k;
}
