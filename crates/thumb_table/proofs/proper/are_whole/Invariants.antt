use Rattle.std.proofs.Common.{◌+◌, ◌*◌, ◌≤◌}
use Rattle.thumb_table.specs.Effects.{registers}
use Rattle.thumb_table.specs.Ordinary.{AreWhole}
use Rattle.thumb_table.proofs.ListLemmas.{rest}
use Rattle.thumb_table.proofs.proper.are_whole.Given as goal

abbrev pub invariant-each : goal.invariant-each
invariant-each l = record {
  onwards : AreWhole l.m l.at (rest l.list.0 l.k) → AreWhole l.m l.fn.address (registers l.list.0);
  backwards : AreWhole l.m l.fn.address (registers l.list.0) → AreWhole l.m l.at (rest l.list.0 l.k);
  within : l.at ≤ l.fn.address + 4 * l.k;
}
