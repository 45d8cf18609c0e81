use Rattle.std.proofs.Common.{[], List, sym, subst, take, ◌+◌}
use Rattle.std.proofs.lemmas.List.{take_all}
use Rattle.std.proofs.lemmas.Option.{slice_get-get_or}
use Rattle.elf_model.specs.declared.objects.Reloc.{Reloc}
use Rattle.emit_object.specs.declared.reloc_sites.Site.{Site}
use Rattle.emit_object.specs.MadeRelocs.{AreMade}
use Rattle.emit_object.proofs.MadeFacts.{none_made, made_more}
use Rattle.emit_object.proofs.reloc_table.made_relocs.Goals as goal

pub loop-s-init : goal.loop-s-init
loop-s-init c = λ l are. subst (λ (xs : List Reloc). AreMade c.args.o.now l [] xs) (sym c.new-list.ensures.items) (none_made c.args.o.now l)

pub loop-s-preserved : goal.loop-s-preserved
loop-s-preserved c = λ l are.
    subst (λ (xs : List Reloc). AreMade c.args.o.now l (take (c.loop-s.s-index + 1) c.args.sites.now) xs) (sym c.in_ok-push_reloc.ensures)
    (made_more c.args.o.now l c.args.sites.now c.requires.order c.loop-s.s-index _ (slice_get-get_or c.args.sites.now c.loop-s.s-index _ c.loop-s-test.true) c.loop-s.list.items (c.loop-s.invariant l are) c.made_at.result (c.made_at.ensures l are))

pub returns : goal.returns
returns c = λ l are. subst (λ (ss : List Site). AreMade c.args.o.now l ss c.loop-s.list.items) (take_all c.loop-s.s-index c.args.sites.now c.loop-s-test.false) (c.loop-s.invariant l are)
