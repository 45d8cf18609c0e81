use Rattle.std.proofs.Common.{◌≡◌, ◌+◌, ◌==◌, drop}
use Rattle.std.specs.List.{prefix_len}
use Rattle.elf_write.proofs.relocs.run_length.Given as goal

abbrev pub invariant-loop-r : goal.invariant-loop-r
invariant-loop-r l = record {
  all : l.n + prefix_len (λ r. r.section == l.section) (drop l.r-index l.relocs) ≡ prefix_len (λ r. r.section == l.section) l.relocs;
  count : l.n ≡ l.r-index;
}
