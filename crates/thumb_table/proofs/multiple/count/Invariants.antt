use Rattle.std.proofs.Common.{◌≡◌, ◌+◌, ◌≤◌, length}
use Rattle.thumb_table.specs.Effects.{registers}
use Rattle.thumb_table.proofs.ListLemmas.{rest}
use Rattle.thumb_table.proofs.multiple.count.Given as goal

abbrev pub invariant-each : goal.invariant-each
invariant-each l = record {
  counted : l.count + length (rest l.list.0 l.k) ≡ length (registers l.list.0);
  within : l.count ≤ l.k;
}
