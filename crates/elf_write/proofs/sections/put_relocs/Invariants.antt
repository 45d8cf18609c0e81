use Rattle.std.proofs.Common.{◌++◌, map, take}
use Rattle.elf_model.specs.Canonical.{own_section, reloc_section, relocated}
use Rattle.elf_write.specs.Writing.{IsWritten}
use Rattle.elf_write.proofs.sections.put_relocs.Given as goal

abbrev pub invariant-loop-i : goal.invariant-loop-i
invariant-loop-i l = IsWritten l.layout l.names (map own_section l.o.sections ++ map (reloc_section l.o) (relocated l.o 0 (take l.i l.o.sections)))
