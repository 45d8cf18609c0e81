-- Images of small objects, against those of a linker that was made apart from these definitions.
use Rattle.std.specs.Prelude.{◌≡◌, ℕ, List, [], ◌∷◌, ◌+◌, ◌-◌, ◌*◌, length, map, get_or, true, false, refl, codes}
use Rattle.elf_model.specs.declared.objects.Home.TheVariants as home
use Rattle.elf_model.specs.declared.objects.RelocKind.TheVariants.{ThmCall}
use Rattle.elf_model.specs.Fields.{byte_at}
use Rattle.elf_model.specs.Objects.{ObjectParts, is_object}
use Rattle.elf_model.specs.Ranges.{length_at}
use Rattle.mark_word.specs.declared.marks.Mark.TheVariants.{Plain}
use Rattle.mark_word.specs.Words.{Cell, bare}
use Rattle.thumb_instr.specs.FullRows.{full_rows, on_condition_branch}
use Rattle.thumb_instr.specs.HalfRows.{half_rows}
use Rattle.thumb_table.specs.declared.placements.Placement.{Placement}
use Rattle.reloc_places.specs.Starts.{decoded_at}
use Rattle.thumb_table.specs.Layouts.{all_placed, as_part, code_bytes_of, data_bytes_of}
use Rattle.thumb_table.specs.Names.{entries_of}
use Rattle.thumb_table.specs.Links.{Link, IsLink, place_of, value_of, full, mark_of, is_in_range}
use Rattle.thumb_table.specs.Images.{IsLinkedCode, IsLinkedData}
use Rattle.thumb_table.proofs.LinkChecks.{links, free, renumbered_answer}
use Rattle.thumb_table.proofs.LinkComparing.{instr_of}
use Rattle.thumb_table.proofs.LinkEach.{EachLink, InCode, InData, linked_code_is, linked_data_is}
use Rattle.std.proofs.lemmas.Bool.{both_ways}

-- a call to a weak function of another object, with another alignment
abbrev pub weak_object0 : ObjectParts
weak_object0 = record {
  sections = (record { name = codes ".text"; kind = 1; flags = 6; align = 4; entry = 0; size = 8; bytes = 255 ∷ 247 ∷ 254 ∷ 255 ∷ 16 ∷ 181 ∷ 16 ∷ 189 ∷ [] }) ∷
      [];
  symbols = (record { name = codes "$t"; value = 0; size = 0; bind = 0; kind = 0; other = 0; home = home.Section 0 }) ∷
      (record { name = codes "f"; value = 1; size = 4; bind = 1; kind = 2; other = 0; home = home.Section 0 }) ∷
      (record { name = codes "abort"; value = 0; size = 0; bind = 1; kind = 0; other = 0; home = home.Undefined }) ∷
      (record { name = codes "g"; value = 5; size = 4; bind = 1; kind = 2; other = 0; home = home.Section 0 }) ∷
      [];
  relocs = (record { section = 0; offset = 0; kind = ThmCall; symbol = 2 }) ∷
      [];
  flags = 83886080;
}

abbrev pub weak_object1 : ObjectParts
weak_object1 = record {
  sections = (record { name = codes ".text"; kind = 1; flags = 6; align = 8; entry = 0; size = 2; bytes = 254 ∷ 231 ∷ [] }) ∷
      [];
  symbols = (record { name = codes "$t"; value = 0; size = 0; bind = 0; kind = 0; other = 0; home = home.Section 0 }) ∷
      (record { name = codes "abort"; value = 1; size = 2; bind = 2; kind = 2; other = 0; home = home.Section 0 }) ∷
      [];
  relocs = [];
  flags = 83886080;
}

abbrev pub weak_objects : List ObjectParts
weak_objects = weak_object0 ∷ weak_object1 ∷ []

abbrev pub weak_at : Placement
weak_at = record { base = 32768; room = 64; stack = 65536 }

abbrev pub weak_code : List ℕ
weak_code = 0 ∷ 240 ∷ 2 ∷ 248 ∷ 16 ∷ 181 ∷ 16 ∷ 189 ∷ 254 ∷ 231 ∷ []

abbrev pub weak_cells : List Cell
weak_cells = []

pub weak_is_object0 : is_object weak_object0 ≡ true
weak_is_object0 = refl

pub weak_is_object1 : is_object weak_object1 ≡ true
weak_is_object1 = refl

pub weak_parts : map as_part (all_placed weak_objects weak_at) ≡ (record { object = 0; code = true; ordinal = 0; start = 32768; size = 8 }) ∷ (record { object = 1; code = true; ordinal = 0; start = 32776; size = 2 }) ∷ []
weak_parts = refl

pub weak_entries : entries_of weak_objects (all_placed weak_objects weak_at) ≡ (record { name = codes "f"; address = 32769 }) ∷ (record { name = codes "g"; address = 32773 }) ∷ (record { name = codes "abort"; address = 32777 }) ∷ []
weak_entries = refl

pub weak_size : length weak_code ≡ length (code_bytes_of weak_objects weak_at)
weak_size = refl

pub weak_data_size : length weak_cells ≡ length (data_bytes_of weak_objects weak_at)
weak_data_size = refl

pub weak_others : map (byte_at weak_code) (free (links weak_objects weak_at) 32768 (length weak_code)) ≡ map (byte_at (code_bytes_of weak_objects weak_at)) (free (links weak_objects weak_at) 32768 (length weak_code))
weak_others = refl

pub weak_data_others : map (λ x. get_or weak_cells x (bare 0)) (free (links weak_objects weak_at) 32832 (length weak_cells)) ≡ map (λ x. bare (byte_at (data_bytes_of weak_objects weak_at) x)) (free (links weak_objects weak_at) 32832 (length weak_cells))
weak_data_others = refl

abbrev pub weak_link0 : Link
weak_link0 = get_or (links weak_objects weak_at) 0 (record { file = 0; object = weak_object0; number = 0; reloc = (record { section = 0; offset = 0; kind = ThmCall; symbol = 2 }); part = record { object = 0; index = 0; ordinal = 0; start = 0; section = (record { name = codes ".text"; kind = 1; flags = 6; align = 4; entry = 0; size = 8; bytes = 255 ∷ 247 ∷ 254 ∷ 255 ∷ 16 ∷ 181 ∷ 16 ∷ 189 ∷ [] }) }; symbol = (record { name = codes "$t"; value = 0; size = 0; bind = 0; kind = 0; other = 0; home = home.Section 0 }); meant = record { object = 0; index = 0; symbol = (record { name = codes "$t"; value = 0; size = 0; bind = 0; kind = 0; other = 0; home = home.Section 0 }) } })

pub weak_is_link0 : IsLink weak_objects weak_at weak_link0
weak_is_link0 = record { object = refl; reloc = refl; part = refl; symbol = refl; meant = refl }

pub weak_meant0 : (weak_link0).meant.object * 100 + (weak_link0).meant.index ≡ 101
weak_meant0 = refl

pub weak_full0 : full (all_placed weak_objects weak_at) weak_link0 ≡ 32773
unfolding full_rows half_rows on_condition_branch
weak_full0 = refl

pub weak_in_range0 : is_in_range (all_placed weak_objects weak_at) weak_link0 ≡ true
unfolding full_rows half_rows on_condition_branch
weak_in_range0 = refl

pub weak_written0 : decoded_at weak_code (place_of weak_link0 - 32768) 0 ≡ renumbered_answer (value_of (all_placed weak_objects weak_at) weak_link0) (decoded_at (weak_link0).part.section.bytes 0 0)
unfolding full_rows half_rows on_condition_branch
weak_written0 = refl

pub weak_width0 : length_at weak_code (place_of weak_link0 - 32768) ≡ length_at (weak_link0).part.section.bytes 0
unfolding full_rows half_rows on_condition_branch
weak_width0 = refl

pub weak_mark0 : mark_of (all_placed weak_objects weak_at) weak_link0 ≡ Plain
unfolding full_rows half_rows on_condition_branch
weak_mark0 = refl

weak_are_links : EachLink (IsLink weak_objects weak_at) (links weak_objects weak_at)
weak_are_links = (weak_is_link0, tt)

weak_in_code0 : InCode weak_objects weak_at weak_code weak_link0
unfolding full_rows half_rows on_condition_branch
weak_in_code0 = λ c. record { of_word = λ h. absurd (both_ways false refl h); of_instr = λ h. record { instr = instr_of (decoded_at (weak_link0).part.section.bytes 0 0) refl; was = refl; becomes = refl; width = refl } }

weak_in_data0 : InData weak_objects weak_at weak_cells weak_link0
unfolding full_rows half_rows on_condition_branch
weak_in_data0 = λ h. absurd (both_ways false refl h)

pub weak_linked_code : IsLinkedCode weak_objects weak_at weak_code
weak_linked_code = linked_code_is weak_objects weak_at weak_code weak_are_links refl refl refl (weak_in_code0, tt)

pub weak_linked_data : IsLinkedData weak_objects weak_at (record { base = 32832; cells = weak_cells })
weak_linked_data = linked_data_is weak_objects weak_at weak_cells weak_are_links refl refl (weak_in_data0, tt)
