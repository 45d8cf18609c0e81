use Rattle.std.proofs.Common.{◌≡◌, ◌≤◌, ◌+◌, ◌-◌, ◌*◌, ◌++◌, map}
use Rattle.elf_model.specs.Files.{is_kept_symbol, from}
use Rattle.elf_read.proofs.keeping.push_symbol_flags.Given as goal

abbrev pub invariant-loop-k : goal.invariant-loop-k
invariant-loop-k l = record {
  done : l.flags.items ≡ l.fn.flags.items ++ map (λ k. is_kept_symbol l.bytes (l.table + 16 * k)) (from 1 (l.k - 1));
  near : l.k - 1 ≤ l.n - 1;
}
