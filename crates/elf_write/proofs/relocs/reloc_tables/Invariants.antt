use Rattle.std.proofs.Common.{◌≡◌, map}
use Rattle.elf_model.specs.Files.{from}
use Rattle.elf_model.proofs.Sorted.{in_from}
use Rattle.elf_write.specs.Writing.{reloc_table, FitBefore}
use Rattle.elf_write.proofs.relocs.reloc_tables.Given as goal

abbrev pub invariant-loop-section : goal.invariant-loop-section
invariant-loop-section l = record {
  rest : l.rest ≡ in_from l.section l.relocs;
  read : FitBefore l.relocs l.rest;
  tables : l.tables.items ≡ map (reloc_table l.relocs) (from 0 l.section);
}
