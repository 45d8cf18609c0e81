use Rattle.std.proofs.Common.{◌≡◌, ℕ, List, Option, None, Some, map, sym, ap, ◌∙◌, subst}
use Rattle.std.specs.Prelude.{find, is_none}
use Rattle.elf_model.specs.declared.objects.Reloc.{Reloc}
use Rattle.elf_model.specs.declared.refusals.Deny.{Deny}
use Rattle.elf_model.specs.Objects.{ObjectParts}
use Rattle.thumb_table.specs.LinkFaults.{IsLinkDenial, NamesNothing}
use Rattle.flat_link.specs.Misplaced.{IsFirstMisplaced}
use Rattle.flat_link.specs.Sites.{Sited, sited_of, all_sited, meaning}
use Rattle.flat_link.proofs.RefusalFacts.{undefined_is, all_named}
use Rattle.flat_link.proofs.linker.link_right.Goals as goal

-- what the search for an undefined symbol found, among the relocations of these objects
moved : (os objects : List ObjectParts) (ss : List Sited) (f : Option Sited) → os ≡ objects → ss ≡ all_sited 0 objects → f ≡ find (λ (s : Sited). is_none (meaning os s)) ss → find (λ (s : Sited). is_none (meaning objects s)) (all_sited 0 objects) ≡ f
moved os objects ss f same all e =
    sym (e ∙ ap (λ (o : List ObjectParts). find (λ (s : Sited). is_none (meaning o s)) ss) same ∙ ap (find (λ (s : Sited). is_none (meaning objects s))) all)

pub returns-in-Some-clause-refused : goal.returns-in-Some-clause-refused
returns-in-Some-clause-refused c =
    let objects = c.args.objects.now in
    let f = sited_of c.in-Some.site in
    let is = moved c.in_ok-names.names.objects.now objects _ (Some f) c.in_ok-names.ensures.objects (ap (map sited_of) c.deref-2.ensures.value ∙ c.in_ok-sites.ensures) c.in-Some.ensures in
    subst (λ (why : Deny). IsLinkDenial objects c.args.at.now why) (sym c.undefined.ensures) (undefined_is objects c.args.at.now c.requires.sound c.requires.right f is)

pub link_named-requires-clause-named : goal.link_named-requires-clause-named
link_named-requires-clause-named c =
    let objects = c.args.objects.now in
    let is = moved c.in_ok-names.names.objects.now objects _ None c.in_ok-names.ensures.objects (ap (map sited_of) c.deref-2.ensures.value ∙ c.in_ok-sites.ensures) c.in-None.ensures in
    subst (λ (os : List ObjectParts). (i k : ℕ) (r : Reloc) → NamesNothing os i k r → ⊥) (sym c.in_ok-names.ensures.objects) (all_named objects c.args.at.now c.requires.sound c.requires.right is)

pub link_named-requires-clause-right : goal.link_named-requires-clause-right
link_named-requires-clause-right c = subst (λ (os : List ObjectParts). IsFirstMisplaced os None) (sym c.in_ok-names.ensures.objects) c.requires.right
