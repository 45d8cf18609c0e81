-- Images of small objects, against those of a linker that was made apart from these definitions.
use Rattle.std.specs.Prelude.{◌≡◌, ℕ, List, [], ◌∷◌, ◌+◌, ◌-◌, ◌*◌, length, map, get_or, true, false, refl, codes}
use Rattle.elf_model.specs.declared.objects.Home.TheVariants as home
use Rattle.elf_model.specs.declared.objects.RelocKind.TheVariants.{ThmCall}
use Rattle.elf_model.specs.Fields.{byte_at}
use Rattle.elf_model.specs.Objects.{ObjectParts, is_object}
use Rattle.elf_model.specs.Ranges.{length_at}
use Rattle.mark_word.specs.declared.marks.Mark.TheVariants.{Plain}
use Rattle.mark_word.specs.Words.{Cell, bare}
use Rattle.thumb_instr.specs.FullRows.{full_rows, on_condition_branch}
use Rattle.thumb_instr.specs.HalfRows.{half_rows}
use Rattle.thumb_table.specs.declared.placements.Placement.{Placement}
use Rattle.reloc_places.specs.Starts.{decoded_at}
use Rattle.thumb_table.specs.Layouts.{all_placed, as_part, code_bytes_of, data_bytes_of}
use Rattle.thumb_table.specs.Names.{entries_of}
use Rattle.thumb_table.specs.Links.{Link, IsLink, place_of, value_of, full, mark_of, is_in_range}
use Rattle.thumb_table.specs.Images.{IsLinkedCode, IsLinkedData}
use Rattle.thumb_table.proofs.LinkChecks.{links, free, renumbered_answer}
use Rattle.thumb_table.proofs.LinkComparing.{instr_of}
use Rattle.thumb_table.proofs.LinkEach.{EachLink, InCode, InData, linked_code_is, linked_data_is}
use Rattle.std.proofs.lemmas.Bool.{both_ways}

-- a call to a function of another object
abbrev pub call_object0 : ObjectParts
call_object0 = record {
  sections = (record { name = codes ".text"; kind = 1; flags = 6; align = 4; entry = 0; size = 8; bytes = 16 ∷ 181 ∷ 255 ∷ 247 ∷ 254 ∷ 255 ∷ 16 ∷ 189 ∷ [] }) ∷
      [];
  symbols = (record { name = codes "$t"; value = 0; size = 0; bind = 0; kind = 0; other = 0; home = home.Section 0 }) ∷
      (record { name = codes "f"; value = 1; size = 8; bind = 1; kind = 2; other = 0; home = home.Section 0 }) ∷
      (record { name = codes "g"; value = 0; size = 0; bind = 1; kind = 0; other = 0; home = home.Undefined }) ∷
      [];
  relocs = (record { section = 0; offset = 2; kind = ThmCall; symbol = 2 }) ∷
      [];
  flags = 83886080;
}

abbrev pub call_object1 : ObjectParts
call_object1 = record {
  sections = (record { name = codes ".text"; kind = 1; flags = 6; align = 4; entry = 0; size = 2; bytes = 112 ∷ 71 ∷ [] }) ∷
      [];
  symbols = (record { name = codes "$t"; value = 0; size = 0; bind = 0; kind = 0; other = 0; home = home.Section 0 }) ∷
      (record { name = codes "g"; value = 1; size = 2; bind = 1; kind = 2; other = 0; home = home.Section 0 }) ∷
      [];
  relocs = [];
  flags = 83886080;
}

abbrev pub call_objects : List ObjectParts
call_objects = call_object0 ∷ call_object1 ∷ []

abbrev pub call_at : Placement
call_at = record { base = 32768; room = 64; stack = 65536 }

abbrev pub call_code : List ℕ
call_code = 16 ∷ 181 ∷ 0 ∷ 240 ∷ 1 ∷ 248 ∷ 16 ∷ 189 ∷ 112 ∷ 71 ∷ []

abbrev pub call_cells : List Cell
call_cells = []

pub call_is_object0 : is_object call_object0 ≡ true
call_is_object0 = refl

pub call_is_object1 : is_object call_object1 ≡ true
call_is_object1 = refl

pub call_parts : map as_part (all_placed call_objects call_at) ≡ (record { object = 0; code = true; ordinal = 0; start = 32768; size = 8 }) ∷ (record { object = 1; code = true; ordinal = 0; start = 32776; size = 2 }) ∷ []
call_parts = refl

pub call_entries : entries_of call_objects (all_placed call_objects call_at) ≡ (record { name = codes "f"; address = 32769 }) ∷ (record { name = codes "g"; address = 32777 }) ∷ []
call_entries = refl

pub call_size : length call_code ≡ length (code_bytes_of call_objects call_at)
call_size = refl

pub call_data_size : length call_cells ≡ length (data_bytes_of call_objects call_at)
call_data_size = refl

pub call_others : map (byte_at call_code) (free (links call_objects call_at) 32768 (length call_code)) ≡ map (byte_at (code_bytes_of call_objects call_at)) (free (links call_objects call_at) 32768 (length call_code))
call_others = refl

pub call_data_others : map (λ x. get_or call_cells x (bare 0)) (free (links call_objects call_at) 32832 (length call_cells)) ≡ map (λ x. bare (byte_at (data_bytes_of call_objects call_at) x)) (free (links call_objects call_at) 32832 (length call_cells))
call_data_others = refl

abbrev pub call_link0 : Link
call_link0 = get_or (links call_objects call_at) 0 (record { file = 0; object = call_object0; number = 0; reloc = (record { section = 0; offset = 2; kind = ThmCall; symbol = 2 }); part = record { object = 0; index = 0; ordinal = 0; start = 0; section = (record { name = codes ".text"; kind = 1; flags = 6; align = 4; entry = 0; size = 8; bytes = 16 ∷ 181 ∷ 255 ∷ 247 ∷ 254 ∷ 255 ∷ 16 ∷ 189 ∷ [] }) }; symbol = (record { name = codes "$t"; value = 0; size = 0; bind = 0; kind = 0; other = 0; home = home.Section 0 }); meant = record { object = 0; index = 0; symbol = (record { name = codes "$t"; value = 0; size = 0; bind = 0; kind = 0; other = 0; home = home.Section 0 }) } })

pub call_is_link0 : IsLink call_objects call_at call_link0
call_is_link0 = record { object = refl; reloc = refl; part = refl; symbol = refl; meant = refl }

pub call_meant0 : (call_link0).meant.object * 100 + (call_link0).meant.index ≡ 101
call_meant0 = refl

pub call_full0 : full (all_placed call_objects call_at) call_link0 ≡ 32773
unfolding full_rows half_rows on_condition_branch
call_full0 = refl

pub call_in_range0 : is_in_range (all_placed call_objects call_at) call_link0 ≡ true
unfolding full_rows half_rows on_condition_branch
call_in_range0 = refl

pub call_written0 : decoded_at call_code (place_of call_link0 - 32768) 0 ≡ renumbered_answer (value_of (all_placed call_objects call_at) call_link0) (decoded_at (call_link0).part.section.bytes 2 0)
unfolding full_rows half_rows on_condition_branch
call_written0 = refl

pub call_width0 : length_at call_code (place_of call_link0 - 32768) ≡ length_at (call_link0).part.section.bytes 2
unfolding full_rows half_rows on_condition_branch
call_width0 = refl

pub call_mark0 : mark_of (all_placed call_objects call_at) call_link0 ≡ Plain
unfolding full_rows half_rows on_condition_branch
call_mark0 = refl

call_are_links : EachLink (IsLink call_objects call_at) (links call_objects call_at)
call_are_links = (call_is_link0, tt)

call_in_code0 : InCode call_objects call_at call_code call_link0
unfolding full_rows half_rows on_condition_branch
call_in_code0 = λ c. record { of_word = λ h. absurd (both_ways false refl h); of_instr = λ h. record { instr = instr_of (decoded_at (call_link0).part.section.bytes 2 0) refl; was = refl; becomes = refl; width = refl } }

call_in_data0 : InData call_objects call_at call_cells call_link0
unfolding full_rows half_rows on_condition_branch
call_in_data0 = λ h. absurd (both_ways false refl h)

pub call_linked_code : IsLinkedCode call_objects call_at call_code
call_linked_code = linked_code_is call_objects call_at call_code call_are_links refl refl refl (call_in_code0, tt)

pub call_linked_data : IsLinkedData call_objects call_at (record { base = 32832; cells = call_cells })
call_linked_data = linked_data_is call_objects call_at call_cells call_are_links refl refl (call_in_data0, tt)
