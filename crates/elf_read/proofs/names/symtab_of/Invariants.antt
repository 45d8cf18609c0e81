use Rattle.elf_read.proofs.SymbolTable.{NoTable}
use Rattle.elf_read.proofs.names.symtab_of.Given as goal

abbrev pub invariant-loop-h : goal.invariant-loop-h
invariant-loop-h l = NoTable l.bytes l.h
