use Rattle.elf_model.specs.declared.refusals.Refusal.TheVariants.{SectionKind}
use Rattle.elf_read.specs.Faults.{Fault}
use Rattle.elf_read.proofs.Lowest.{NoneUnder}
use Rattle.elf_read.proofs.unhandled.first_bad_kind.Given as goal

abbrev pub invariant-loop-h : goal.invariant-loop-h
invariant-loop-h l = NoneUnder (Fault l.bytes l.fn.limit SectionKind) l.h
