use Rattle.std.proofs.Common.{◌≡◌, ◌≤◌, ◌-◌, length, filter, not, ◌&&◌}
use Rattle.elf_model.specs.Files.{from, header, is_table, is_dropped}
use Rattle.elf_read.proofs.whole.dropped.Given as goal

abbrev pub invariant-loop-h : goal.invariant-loop-h
invariant-loop-h l = record {
  done : l.n ≡ length (filter (λ h. not (is_table (header l.bytes h).kind) && is_dropped l.bytes h) (from 1 (l.h - 1)));
  small : l.n ≤ l.h - 1;
  near : l.h - 1 ≤ l.h-end - 1;
}
