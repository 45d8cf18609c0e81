use Rattle.std.proofs.Common.{◌≡◌, ◌≤◌, ◌-◌, map, filter}
use Rattle.elf_model.specs.Files.{from, is_kept, section_of}
use Rattle.elf_read.proofs.building.sections.Given as goal

abbrev pub invariant-loop-h : goal.invariant-loop-h
invariant-loop-h l = record {
  done : l.sections.items ≡ map (section_of l.bytes) (filter (is_kept l.bytes) (from 1 (l.h - 1)));
  near : l.h - 1 ≤ l.h-end - 1;
}
