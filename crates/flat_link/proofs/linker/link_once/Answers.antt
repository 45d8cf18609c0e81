use Rattle.std.proofs.Common.{ℕ, List, None, sym, subst}
use Rattle.elf_model.specs.declared.objects.Reloc.{Reloc}
use Rattle.elf_model.specs.Objects.{ObjectParts}
use Rattle.thumb_table.specs.Names.{Defined}
use Rattle.thumb_table.specs.LinkFaults.{IsSecond, NamesNothing}
use Rattle.flat_link.specs.Misplaced.{IsFirstMisplaced}
use Rattle.flat_link.proofs.RefusalFacts.{fit_is}
use Rattle.flat_link.proofs.linker.link_once.Goals as goal

pub returns-in-Err-clause-refused : goal.returns-in-Err-clause-refused
returns-in-Err-clause-refused c =
    fit_is c.args.names.now.objects.now c.args.at.now c.requires.sound c.requires.right c.requires.named c.requires.once c.in-Err.why c.in-Err.ensures.refused

pub link_laid-requires-clause-right : goal.link_laid-requires-clause-right
link_laid-requires-clause-right c = subst (λ (os : List ObjectParts). IsFirstMisplaced os None) (sym c.in-Ok.ensures.objects) c.requires.right

pub link_laid-requires-clause-named : goal.link_laid-requires-clause-named
link_laid-requires-clause-named c = subst (λ (os : List ObjectParts). (i k : ℕ) (r : Reloc) → NamesNothing os i k r → ⊥) (sym c.in-Ok.ensures.objects) c.requires.named

pub link_laid-requires-clause-once : goal.link_laid-requires-clause-once
link_laid-requires-clause-once c = subst (λ (os : List ObjectParts). (d : Defined) → IsSecond os d → ⊥) (sym c.in-Ok.ensures.objects) c.requires.once
