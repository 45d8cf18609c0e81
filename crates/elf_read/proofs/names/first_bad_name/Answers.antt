use Rattle.std.proofs.Common.{sym, subst, Option}
use Rattle.elf_model.specs.declared.refusals.Refusal.TheVariants.{BadName}
use Rattle.elf_read.specs.declared.places.Place.{Place}
use Rattle.elf_read.specs.Faults.{Fault}
use Rattle.elf_read.specs.Places.{IsLowest}
use Rattle.elf_read.proofs.NameFaults.{lowest_name}
use Rattle.elf_read.proofs.names.first_bad_name.Goals as goal

pub returns : goal.returns
returns c = λ l.
    subst (λ (x : Option Place). IsLowest (Fault c.args.bytes.now l BadName) x) (sym c.lower.ensures)
    (lowest_name c.args.bytes.now l c.first_unnamed.result c.first_unnamed_symbol.result c.first_unnamed.ensures c.first_unnamed_symbol.ensures)
