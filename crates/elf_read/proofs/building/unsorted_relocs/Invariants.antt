use Rattle.std.proofs.Common.{◌≡◌, ◌≤◌, ◌-◌, map}
use Rattle.elf_model.specs.Files.{reloc_of}
use Rattle.elf_read.proofs.BuiltLists.{entries_up_to}
use Rattle.elf_read.proofs.building.unsorted_relocs.Given as goal

abbrev pub invariant-loop-h : goal.invariant-loop-h
invariant-loop-h l = record {
  done : l.relocs.items ≡ map (reloc_of l.bytes) (entries_up_to l.bytes l.h);
  near : l.h - 1 ≤ l.h-end - 1;
}
