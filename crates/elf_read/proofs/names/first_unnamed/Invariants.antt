use Rattle.elf_read.proofs.NameFaults.{NamedBelow}
use Rattle.elf_read.proofs.names.first_unnamed.Given as goal

abbrev pub invariant-loop-h : goal.invariant-loop-h
invariant-loop-h l = NamedBelow l.bytes l.h
