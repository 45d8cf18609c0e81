-- The words of data ranges in the image.
use Rattle.std.specs.Prelude.{◌≡◌, ◌≤◌, ◌+◌, true, Some, slice_get}
use Rattle.std.proofs.Common.{arith, sym, ◌∙◌, subst}
use Rattle.std.proofs.lemmas.Option.{same_Some}
use Rattle.elf_model.specs.declared.objects.Section.{Section}
use Rattle.elf_model.specs.Fields.{word}
use Rattle.elf_model.specs.Objects.{ObjectParts, is_code}
use Rattle.reloc_places.specs.Starts.{bytes_of}
use Rattle.reloc_places.specs.Relocations.{is_word, IsPlace, in_data, in_code, on_instr, IsRight}
use Rattle.sim_images.specs.CodeLaws.{WordLinked}
use Rattle.sim_images.proofs.PartFacts.{part_is}
use Rattle.sim_images.proofs.RightPlaces.{no_both}
use Rattle.reloc_places.proofs.StartFacts.{start_before, start_behind}
use Rattle.sim_images.proofs.StandingLinked.{mark_there}

pub word_linked : WordLinked
word_linked objects at image sound is l link w =
    ((is.code.linked l link code).of_word (on right.place), mark_there objects at image sound is l link code)
  where
    section_there : slice_get l.object.sections l.reloc.section ≡ Some l.part.section
    section_there =
        let h = part_is objects at l.file l.reloc.section l.part link.part in
        subst (λ (o : ObjectParts). slice_get o.sections l.reloc.section ≡ Some l.part.section) (same_Some h.object l.object (sym h.there ∙ link.object)) h.section

    code : is_code l.part.section ≡ true
    code = subst (λ (s : Section). is_code s ≡ true) (same_Some w.range.section l.part.section (sym w.range.is_there ∙ section_there)) w.range.in_code

    right : IsRight l.object l.number l.reloc
    right = is.can.right l.file l.number l.object l.reloc (record { object = link.object; reloc = link.reloc })

    on : IsPlace l.object l.reloc → is_word l.reloc.kind ≡ true
    on (in_data s there datum word) = word
    on (in_code word v) = word
    on (on_instr end i start given fits) =
        let a = start_before (bytes_of l.object l.reloc.section) start.start end l.reloc.offset start.is_start in
        let b = start_behind (bytes_of l.object l.reloc.section) start.start end l.reloc.offset start.is_start in
        let c : w.start ≤ l.reloc.offset = w.behind_start in
        let d : l.reloc.offset + 4 ≤ w.end = w.before_end in
        absurd (no_both l.object l.reloc.section start.start end w.start w.end l.reloc.offset start.range w.range b a c (omega arith))
