use Rattle.elf_model.specs.declared.refusals.Refusal.TheVariants.{TooMany}
use Rattle.elf_read.specs.Faults.{Fault}
use Rattle.elf_read.proofs.LimitFaults.{AreSums}
use Rattle.elf_read.proofs.Lowest.{NoneUnder}
use Rattle.elf_read.proofs.limits.first_too_many.Given as goal

abbrev pub invariant-loop-h : goal.invariant-loop-h
invariant-loop-h l = record {
  sums : AreSums l.bytes l.limit l.h l.relocs l.code;
  none : NoneUnder (Fault l.bytes l.limit TooMany) l.h;
}
