use Rattle.std.proofs.Common.{◌≡◌, List, map, sym, ap, ◌∙◌, subst, Some}
use Rattle.std.specs.Prelude.{Contains, find, not}
use Rattle.elf_model.specs.declared.refusals.Deny.{Deny}
use Rattle.thumb_table.specs.Links.{Link, is_in_range}
use Rattle.thumb_table.specs.LinkFaults.{IsLinkDenial}
use Rattle.flat_link.specs.declared.layout.Layout.{Layout}
use Rattle.flat_link.specs.declared.ties.Tie.{Tie}
use Rattle.flat_link.specs.Layout.{parts_in}
use Rattle.flat_link.specs.Sites.{Sited, link_of, links_among, all_links, all_sited}
use Rattle.flat_link.specs.Ties.{AreInRange}
use Rattle.flat_link.proofs.ImageFacts.{are_ties, none_out, not_long, image_is}
use Rattle.flat_link.proofs.TieFacts.{standing}
use Rattle.flat_link.proofs.RefusalFacts.{range_is}
use Rattle.flat_link.proofs.linker.link_laid.Goals as goal

-- the ties that were made, as another list has them
made : (l : Layout) (ties items : List Tie) (ss : List Sited) → items ≡ ties → map link_of ties ≡ links_among l.objects.now (parts_in l) ss → ss ≡ all_sited 0 l.objects.now → map link_of items ≡ all_links l.objects.now l.at
made l ties items ss same e all = ap (map link_of) same ∙ e ∙ ap (links_among l.objects.now (parts_in l)) all

pub first_out-requires-clause-ties : goal.first_out-requires-clause-ties
first_out-requires-clause-ties c =
    are_ties c.args.layout.now c.deref.result.now c.requires.right (made c.args.layout.now c.in_ok-ties.ties.items c.deref.result.now _ c.deref.ensures.value c.in_ok-ties.ensures c.requires.sites)

pub returns-in-Some-clause-refused : goal.returns-in-Some-clause-refused
returns-in-Some-clause-refused c =
    let l = c.args.layout.now in
    let p = λ (k : Link). not (is_in_range (parts_in l) k) in
    let e = made l c.in_ok-ties.ties.items c.deref.result.now _ c.deref.ensures.value c.in_ok-ties.ensures c.requires.sites in
    let is : find p (all_links l.objects.now l.at) ≡ Some (link_of c.in-Some.t) = ap (find p) (sym e) ∙ sym c.in-Some.ensures in
    subst (λ (why : Deny). IsLinkDenial l.objects.now l.at why) (sym c.out_of_range.ensures)
    (range_is l.objects.now l.at c.requires.layout.sound c.requires.right c.requires.named c.requires.once (not_long l.objects.now l.at (standing l c.requires.layout)) (link_of c.in-Some.t) is)

pub image_of-requires-clause-ties : goal.image_of-requires-clause-ties
image_of-requires-clause-ties c =
    are_ties c.args.layout.now c.deref-in-None.result.now c.requires.right (made c.args.layout.now c.in_ok-ties.ties.items c.deref-in-None.result.now _ c.deref-in-None.ensures.value c.in_ok-ties.ensures c.requires.sites)

pub image_of-requires-clause-range : goal.image_of-requires-clause-range
image_of-requires-clause-range c =
    subst (AreInRange c.args.layout.now) (c.deref.ensures.value ∙ sym c.deref-in-None.ensures.value) (none_out c.args.layout.now c.deref.result.now (sym c.in-None.ensures))

pub returns-clause-image : goal.returns-clause-image
returns-clause-image c =
    let l = c.args.layout.now in
    let e = made l c.in_ok-ties.ties.items c.deref.result.now _ c.deref.ensures.value c.in_ok-ties.ensures c.requires.sites in
    image_is l.objects.now l.at (standing l c.requires.layout) c.requires.right c.requires.named c.requires.once
    (λ k there. none_out l c.deref.result.now (sym c.in-None.ensures) k (subst (λ (ks : List Link). Contains ks k) (sym e) there))
    c.in_ok-image_of-in-None.field-0 c.in_ok-image_of-in-None.ensures
