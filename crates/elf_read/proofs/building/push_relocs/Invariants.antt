use Rattle.std.proofs.Common.{◌≡◌, ◌+◌, ◌*◌, ◌++◌, map, filter}
use Rattle.elf_model.specs.Files.{from, header, reloc_of}
use Rattle.elf_read.specs.Keeping.{is_some_reloc}
use Rattle.elf_read.proofs.building.push_relocs.Given as goal

abbrev pub invariant-loop-j : goal.invariant-loop-j
invariant-loop-j l = l.relocs.items ≡ l.fn.relocs.items ++ map (reloc_of l.bytes) (filter (is_some_reloc l.bytes) (map (λ j. (l.h, (header l.bytes l.h).offset + 8 * j)) (from 0 l.j)))
