use Rattle.std.proofs.Common.{◌≡◌, ◌&&◌, drop}
use Rattle.elf_read.specs.MapRows.{rising}
use Rattle.elf_read.proofs.MapRows.{are_above}
use Rattle.elf_read.proofs.maps.rise.Given as goal

abbrev pub invariant-loop-r : goal.invariant-loop-r
invariant-loop-r l = (are_above l.last (drop l.r-index l.rows) && rising (drop l.r-index l.rows)) ≡ rising l.rows
