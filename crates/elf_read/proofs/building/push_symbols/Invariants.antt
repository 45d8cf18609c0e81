use Rattle.std.proofs.Common.{◌≡◌, ◌≤◌, ◌+◌, ◌-◌, ◌*◌, ◌++◌, map, filter}
use Rattle.elf_model.specs.Files.{from, is_kept_symbol, symbol_of}
use Rattle.elf_read.proofs.building.push_symbols.Given as goal

abbrev pub invariant-loop-k : goal.invariant-loop-k
invariant-loop-k l = record {
  done : l.symbols.items ≡ l.fn.symbols.items ++ map (symbol_of l.bytes) (filter (is_kept_symbol l.bytes) (map (λ k. l.table + 16 * k) (from 1 (l.k - 1))));
  near : l.k - 1 ≤ l.n - 1;
}
