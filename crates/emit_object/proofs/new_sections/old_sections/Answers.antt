use Rattle.std.proofs.Common.{◌∙◌, ◌+◌, ℕ, List, length, refl, sym, ap, subst, arith}
use Rattle.std.proofs.lemmas.Option.{slice_get_read}
use Rattle.elf_model.specs.declared.objects.Section.{Section}
use Rattle.emit_object.specs.NewSections.{new_section, AreMade}
use Rattle.emit_object.proofs.SectionFacts.{made_more}
use Rattle.emit_object.proofs.new_sections.old_sections.Goals as goal

pub loop-j-preserved : goal.loop-j-preserved
loop-j-preserved c =
    let before = c.loop-j.invariant in
    let j : ℕ = c.loop-j.j in
    record {
      made =
          subst (λ (l : List Section). AreMade c.args.sections.now c.args.sizes.now c.args.code.items c.args.kept.items (j + 1) l) (sym c.in_ok-push.ensures.items)
          (made_more c.args.sections.now c.args.sizes.now c.args.code.items c.args.kept.items j c.loop-j.list.items c.index-sections-j.result c.in_ok-new_section.field-0 c.take_bytes-new_code.result c.take_bytes-old_bytes.result
          (slice_get_read c.args.sections.now (length c.args.sections.now) j c.index-sections-j.result refl c.loop-j-test.true c.index-sections-j.is) (sym (before.code j (omega arith)) ∙ c.take_bytes-new_code.ensures.taken) (sym (before.kept j (omega arith)) ∙ c.take_bytes-old_bytes.ensures.taken)
          (c.in_ok-new_section.ensures ∙ ap (λ (n : ℕ). new_section c.index-sections-j.result n c.take_bytes-new_code.result.items c.take_bytes-old_bytes.result.items) c.size_at-size.ensures) before.made);
      code_count = c.take_bytes-new_code.ensures.count ∙ before.code_count;
      kept_count = c.take_bytes-old_bytes.ensures.count ∙ before.kept_count;
      code = λ i low. c.take_bytes-new_code.ensures.others i (λ e. omega arith) ∙ before.code i (omega arith);
      kept = λ i low. c.take_bytes-old_bytes.ensures.others i (λ e. omega arith) ∙ before.kept i (omega arith);
    }
