use Rattle.elf_read.proofs.RowBytes.{AreRead}
use Rattle.elf_read.proofs.maps.rows_of.Given as goal

abbrev pub invariant-loop-i : goal.invariant-loop-i
invariant-loop-i l = AreRead l.bytes l.i l.rows.items
