use Rattle.std.proofs.Common.{sym, subst}
use Rattle.elf_model.specs.declared.refusals.Deny.{Deny}
use Rattle.thumb_table.specs.LinkFaults.{IsLinkDenial}
use Rattle.flat_link.specs.Known.{defined_of}
use Rattle.flat_link.proofs.RefusalFacts.{second_known, second_is}
use Rattle.flat_link.proofs.linker.link_named.Goals as goal

pub returns-in-Some-clause-refused : goal.returns-in-Some-clause-refused
returns-in-Some-clause-refused c =
    let objects = c.args.names.now.objects.now in
    subst (λ (why : Deny). IsLinkDenial objects c.args.at.now why) (sym c.duplicate.ensures)
    (second_is objects c.args.at.now c.requires.sound c.requires.right c.requires.named (defined_of c.in-Some.second) c.in-Some.ensures)

pub link_once-requires-clause-once : goal.link_once-requires-clause-once
link_once-requires-clause-once c = λ d s. c.in-None.ensures d (second_known c.args.names.now.objects.now d s) s
