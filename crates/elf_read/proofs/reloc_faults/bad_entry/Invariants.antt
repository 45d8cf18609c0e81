use Rattle.std.proofs.Common.{◌<◌, ℕ}
use Rattle.elf_read.specs.RelocFaults.{AreTaken, BadEntry}
use Rattle.elf_read.proofs.reloc_faults.bad_entry.Given as goal

abbrev pub invariant-loop-j : goal.invariant-loop-j
invariant-loop-j l = record {
  taken : AreTaken l.bytes l.h l.j l.taken;
  none : (i o : ℕ) → i < l.j → BadEntry l.bytes l.h i o → ⊥;
}
