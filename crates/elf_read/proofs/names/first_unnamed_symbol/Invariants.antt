use Rattle.elf_read.proofs.NameFaults.{SymbolsNamed}
use Rattle.elf_read.proofs.names.first_unnamed_symbol.Given as goal

abbrev pub invariant-loop-k : goal.invariant-loop-k
invariant-loop-k l = SymbolsNamed l.bytes l.t l.k
