use Rattle.std.proofs.Common.{◌≡◌, ◌+◌, ◌*◌, ◌≤◌, length}
use Rattle.thumb_table.specs.Effects.{registers, stored}
use Rattle.thumb_table.specs.States.{store_all}
use Rattle.thumb_table.specs.CoreStates.{alone}
use Rattle.thumb_table.proofs.ListLemmas.{rest}
use Rattle.thumb_table.proofs.multiple.store_list.Given as goal

abbrev pub invariant-each : goal.invariant-each
invariant-each l = record {
  same : store_all l.fn.m.base (stored (alone l.s) l.at (rest l.list.0 l.k)) l.m.cells ≡ store_all l.fn.m.base (stored (alone l.s) l.fn.address (registers l.list.0)) l.fn.m.cells;
  place : l.m.base ≡ l.fn.m.base;
  long : length l.m.cells ≡ length l.fn.m.cells;
  starts : l.fn.m.base ≤ l.at;
  ends : l.at + 4 * length (rest l.list.0 l.k) ≤ l.fn.m.base + length l.fn.m.cells;
}
