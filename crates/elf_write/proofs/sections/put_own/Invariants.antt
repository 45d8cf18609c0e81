use Rattle.std.proofs.Common.{map, take}
use Rattle.std.specs.Prelude.{All}
use Rattle.elf_model.specs.Canonical.{own_section}
use Rattle.elf_model.specs.Fits.{SectionFits}
use Rattle.elf_write.specs.Writing.{IsWritten}
use Rattle.elf_write.proofs.sections.put_own.Given as goal

abbrev pub invariant-loop-s : goal.invariant-loop-s
invariant-loop-s l = record { written : IsWritten l.layout l.names (map own_section (take l.s-index l.sections)); fit : All SectionFits (take l.s-index l.sections) }
