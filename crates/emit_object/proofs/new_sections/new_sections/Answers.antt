use Rattle.std.proofs.Common.{◌++◌, ◌∷◌, [], ◌∙◌, ℕ, List, length, sym, ap, subst}
use Rattle.elf_model.specs.declared.objects.Section.{Section}
use Rattle.emit_object.specs.NewSections.{AreMade, AreNewSections}
use Rattle.emit_object.proofs.SectionFacts.{all_made}
use Rattle.emit_object.proofs.new_sections.new_sections.Goals as goal

pub returns : goal.returns
returns c =
    let o = c.args.o.now in
    let old = c.in_ok-list.list.items in
    subst (λ (l : List Section). AreNewSections o c.args.l.now.sizes c.args.code.items c.args.rows.now l)
    (sym (c.in_ok-push.ensures.items ∙ ap (λ (s : Section). old ++ s ∷ []) c.in_ok-map_section.ensures))
    (all_made o c.args.l.now.sizes c.args.code.items c.in_ok-kept.kept.items c.args.rows.now old c.requires.code c.in_ok-kept.ensures
    (subst (λ (l : List Section). AreMade l c.args.l.now.sizes c.args.code.items c.in_ok-kept.kept.items (length l) old) c.sections.ensures
    (subst (λ (ns : List ℕ). AreMade c.sections.result.now ns c.args.code.items c.in_ok-kept.kept.items (length c.sections.result.now) old) c.sizes.ensures c.in_ok-list.ensures)))
