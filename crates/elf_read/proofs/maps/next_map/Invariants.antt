use Rattle.std.proofs.Common.{◌≡◌, drop, filter}
use Rattle.elf_model.specs.Maps.{is_map_named}
use Rattle.elf_read.proofs.maps.next_map.Given as goal

abbrev pub invariant-loop-i : goal.invariant-loop-i
invariant-loop-i l = filter is_map_named (drop l.first l.sections) ≡ filter is_map_named (drop l.i l.sections)
