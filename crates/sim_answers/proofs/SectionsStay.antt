-- Sections keep number and sort.
use Rattle.std.specs.Prelude.{◌≡◌, ℕ, max, Bool, true, false, cond, length, slice_get, refl}
use Rattle.std.proofs.Common.{arith, ap, sym, ◌∙◌}
use Rattle.std.proofs.lemmas.Option.{same_Some, slice_get_within}
use Rattle.elf_model.specs.declared.objects.Section.{Section}
use Rattle.elf_model.specs.Objects.{ObjectParts, is_code, is_alloc}
use Rattle.elf_model.specs.Maps.{map_section}
use Rattle.elf_model.proofs.Elements.{element_at}
use Rattle.hardened_form.specs.Sections.{IsNewSection}
use Rattle.sim_images.specs.Counterparts.{IsSectionOf}
use Rattle.sim_answers.specs.Forms.{SectionsStay}

pub section_of : (o : ObjectParts) (j : ℕ) (s t : Section) → IsNewSection o j s t → IsSectionOf s t
section_of o j s t new = record { kind = new.kind; flags = new.flags; size = λ other. (new.kept other).size; align = aligned (is_code s) refl }
  where
    aligned : (b : Bool) → is_code s ≡ b → t.align ≡ cond b (max 4 s.align) s.align
    aligned true c = new.code c
    aligned false c = (new.kept c).align

pub sections_stay : SectionsStay
sections_stay o h f p carriers is =
    let are = is.form.tables.sections in
    record {
      kept = λ j s there.
          let l = slice_get_within o.sections j s there in
          let t = element_at h.sections j (omega (arith, l, are.count)) in
          (t.0, t.1, section_of o j s t.0 (are.each j s t.0 there t.1));
      more = λ j t past there.
          let l = slice_get_within h.sections j t there in
          let last : j ≡ length o.sections = omega (arith, l, past, are.count) in
          let same : t ≡ map_section is.form.rows = same_Some t (map_section is.form.rows) (sym there ∙ (ap (slice_get h.sections) last ∙ are.map)) in
          ap (λ (z : Section). is_alloc z.flags) same;
    }
