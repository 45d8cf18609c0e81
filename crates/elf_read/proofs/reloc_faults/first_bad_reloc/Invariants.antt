use Rattle.elf_read.specs.RelocFaults.{AreTaken, RelocFault}
use Rattle.elf_read.proofs.Lowest.{NoneUnder}
use Rattle.elf_read.proofs.reloc_faults.first_bad_reloc.Given as goal

abbrev pub invariant-loop-h : goal.invariant-loop-h
invariant-loop-h l = record {
  taken : AreTaken l.bytes l.h 0 l.taken;
  none : NoneUnder (RelocFault l.bytes) l.h;
}
