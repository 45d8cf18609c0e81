use Rattle.std.proofs.Common.{sym, ◌∙◌, subst, Option}
use Rattle.elf_read.specs.declared.places.Place.{Place}
use Rattle.elf_read.specs.RelocFaults.{RelocFault, IsLowestIn}
use Rattle.elf_read.proofs.BadRelocs.{no_entry_at, taken_next, lowest_of_both}
use Rattle.elf_read.proofs.reloc_faults.reloc_fault.Goals as goal

pub returns-then-not-is_kept_relocs-clause-taken : goal.returns-then-not-is_kept_relocs-clause-taken
returns-then-not-is_kept_relocs-clause-taken c =
    let fails = sym c.is_kept_relocs.ensures ∙ c.if-not-is_kept_relocs.true in
    taken_next c.args.bytes.now c.args.h 0 _ (no_entry_at c.args.bytes.now c.args.h fails) c.requires.taken

pub returns-clause-found : goal.returns-clause-found
returns-clause-found c =
    subst (λ (r : Option Place). IsLowestIn (RelocFault c.args.bytes.now c.args.h) c.args.h r) (sym c.lower.ensures)
    (lowest_of_both c.args.bytes.now c.args.h _ _ c.bad_target.ensures c.in_ok-entry.ensures.found)
