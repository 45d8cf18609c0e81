use Rattle.std.proofs.Common.{◌≡◌}
use Rattle.elf_read.specs.Headers.{HasHeaders}
use Rattle.elf_read.proofs.TableFaults.{symtab_below, NoneBelow}
use Rattle.elf_read.proofs.tables.first_bad_table.Given as goal

abbrev pub invariant-loop-h : goal.invariant-loop-h
invariant-loop-h l = record { listed : HasHeaders l.bytes; seen : l.seen ≡ symtab_below l.bytes l.h; none : NoneBelow l.bytes l.h }
