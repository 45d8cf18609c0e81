use Rattle.std.proofs.Common.{sym, ◌+◌, ◌∙◌, arith}
use Rattle.elf_read.specs.RelocFaults.{AreTaken}
use Rattle.elf_read.proofs.BadRelocs.{lowest_some, next_none, lowest_nowhere, if_none}
use Rattle.elf_read.proofs.reloc_faults.first_bad_reloc.Goals as goal

pub returns-then-is_some : goal.returns-then-is_some
returns-then-is_some c = λ l. lowest_some c.args.bytes.now l c.loop-h.h c.in_ok-found.found (sym c.is_some.ensures ∙ c.if-is_some.true) c.loop-h.invariant.none c.in_ok-found.ensures.found

pub loop-h-preserved : goal.loop-h-preserved
loop-h-preserved c =
    let fails = sym c.is_some.ensures ∙ c.if-is_some.false in
    record {
      taken = if_none (AreTaken c.args.bytes.now (c.loop-h.h + 1) 0 c.reloc_fault.new.taken) c.in_ok-found.found fails c.in_ok-found.ensures.taken;
      none = next_none c.args.bytes.now c.loop-h.h c.in_ok-found.found fails c.loop-h.invariant.none c.in_ok-found.ensures.found;
    }

pub returns : goal.returns
returns c = λ l. lowest_nowhere c.args.bytes.now l (λ s o u f. c.loop-h.invariant.none s o (omega (arith, c.count-h-end.ensures.number)) f)
