use Rattle.std.proofs.Common.{◌≡◌, ◌+◌, ◌*◌, ◌<◌, ◌^◌, length}
use Rattle.thumb_table.specs.Effects.{registers, loaded}
use Rattle.thumb_table.specs.States.{write_all}
use Rattle.thumb_table.proofs.ListLemmas.{rest}
use Rattle.thumb_table.proofs.multiple.load_list.Given as goal

abbrev pub invariant-each : goal.invariant-each
invariant-each l = record {
  same : write_all (loaded l.m l.at (rest l.list.0 l.k)) l.s.r ≡ write_all (loaded l.m l.fn.address (registers l.list.0)) l.fn.s.r;
  others : l.s ≡ record l.fn.s { r = l.s.r };
  within : l.at + 4 * length (rest l.list.0 l.k) < 2 ^ 32;
}
