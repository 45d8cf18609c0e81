use Rattle.std.proofs.Common.{◌≡◌, ◌≤◌, ◌==◌, not, length, take}
use Rattle.std.specs.Prelude.{count_by}
use Rattle.elf_write.proofs.relocs.filled.Given as goal

abbrev pub invariant-loop-t : goal.invariant-loop-t
invariant-loop-t l = record { counted : l.n ≡ count_by (λ t. not (length t == 0)) (take l.t-index l.tables); few : l.n ≤ l.t-index }
