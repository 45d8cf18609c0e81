-- Images of small objects, against those of a linker that was made apart from these definitions.
use Rattle.std.specs.Prelude.{◌≡◌, ℕ, List, [], ◌∷◌, ◌+◌, ◌*◌, length, map, get_or, Some, true, false, refl, codes}
use Rattle.elf_model.specs.declared.objects.Home.TheVariants as home
use Rattle.elf_model.specs.declared.objects.RelocKind.TheVariants.{Abs32}
use Rattle.elf_model.specs.Fields.{byte_at}
use Rattle.elf_model.specs.Objects.{ObjectParts, is_object}
use Rattle.mark_word.specs.declared.marks.Mark.TheVariants.{Entry}
use Rattle.mark_word.specs.Words.{Cell, bare}
use Rattle.thumb_instr.specs.FullRows.{full_rows, on_condition_branch}
use Rattle.thumb_instr.specs.HalfRows.{half_rows}
use Rattle.thumb_table.specs.declared.placements.Placement.{Placement}
use Rattle.thumb_table.specs.Layouts.{all_placed, as_part, code_bytes_of, data_bytes_of}
use Rattle.thumb_table.specs.Names.{entries_of}
use Rattle.thumb_table.specs.Links.{Link, IsLink, AreWritten, full, is_in_range}
use Rattle.thumb_table.specs.Images.{IsLinkedCode, IsLinkedData}
use Rattle.thumb_table.proofs.LinkChecks.{links, free}
use Rattle.thumb_table.proofs.LinkEach.{EachLink, InCode, InData, linked_code_is, linked_data_is}
use Rattle.std.proofs.lemmas.Bool.{both_ways}

-- two weak definitions of a name and a global one
abbrev pub strong_object0 : ObjectParts
strong_object0 = record {
  sections = (record { name = codes ".text"; kind = 1; flags = 6; align = 4; entry = 0; size = 4; bytes = 1 ∷ 32 ∷ 112 ∷ 71 ∷ [] }) ∷
      (record { name = codes ".data"; kind = 1; flags = 3; align = 4; entry = 0; size = 4; bytes = 0 ∷ 0 ∷ 0 ∷ 0 ∷ [] }) ∷
      [];
  symbols = (record { name = codes "$t"; value = 0; size = 0; bind = 0; kind = 0; other = 0; home = home.Section 0 }) ∷
      (record { name = codes "w"; value = 1; size = 4; bind = 2; kind = 2; other = 0; home = home.Section 0 }) ∷
      [];
  relocs = (record { section = 1; offset = 0; kind = Abs32; symbol = 1 }) ∷
      [];
  flags = 83886080;
}

abbrev pub strong_object1 : ObjectParts
strong_object1 = record {
  sections = (record { name = codes ".text"; kind = 1; flags = 6; align = 4; entry = 0; size = 4; bytes = 2 ∷ 32 ∷ 112 ∷ 71 ∷ [] }) ∷
      (record { name = codes ".data"; kind = 1; flags = 3; align = 4; entry = 0; size = 4; bytes = 0 ∷ 0 ∷ 0 ∷ 0 ∷ [] }) ∷
      [];
  symbols = (record { name = codes "$t"; value = 0; size = 0; bind = 0; kind = 0; other = 0; home = home.Section 0 }) ∷
      (record { name = codes "w"; value = 1; size = 4; bind = 2; kind = 2; other = 0; home = home.Section 0 }) ∷
      [];
  relocs = (record { section = 1; offset = 0; kind = Abs32; symbol = 1 }) ∷
      [];
  flags = 83886080;
}

abbrev pub strong_object2 : ObjectParts
strong_object2 = record {
  sections = (record { name = codes ".text"; kind = 1; flags = 6; align = 4; entry = 0; size = 4; bytes = 3 ∷ 32 ∷ 112 ∷ 71 ∷ [] }) ∷
      (record { name = codes ".data"; kind = 1; flags = 3; align = 4; entry = 0; size = 4; bytes = 0 ∷ 0 ∷ 0 ∷ 0 ∷ [] }) ∷
      [];
  symbols = (record { name = codes "$t"; value = 0; size = 0; bind = 0; kind = 0; other = 0; home = home.Section 0 }) ∷
      (record { name = codes "w"; value = 1; size = 4; bind = 1; kind = 2; other = 0; home = home.Section 0 }) ∷
      [];
  relocs = (record { section = 1; offset = 0; kind = Abs32; symbol = 1 }) ∷
      [];
  flags = 83886080;
}

abbrev pub strong_objects : List ObjectParts
strong_objects = strong_object0 ∷ strong_object1 ∷ strong_object2 ∷ []

abbrev pub strong_at : Placement
strong_at = record { base = 32768; room = 64; stack = 65536 }

abbrev pub strong_code : List ℕ
strong_code = 1 ∷ 32 ∷ 112 ∷ 71 ∷ 2 ∷ 32 ∷ 112 ∷ 71 ∷ 3 ∷ 32 ∷ 112 ∷ 71 ∷ []

abbrev pub strong_cells : List Cell
strong_cells = (record { byte = 9; piece = Some (record { mark = Entry 32777; index = 0 }) }) ∷ (record { byte = 128; piece = Some (record { mark = Entry 32777; index = 1 }) }) ∷ (record { byte = 0; piece = Some (record { mark = Entry 32777; index = 2 }) }) ∷ (record { byte = 0; piece = Some (record { mark = Entry 32777; index = 3 }) }) ∷ (record { byte = 9; piece = Some (record { mark = Entry 32777; index = 0 }) }) ∷ (record { byte = 128; piece = Some (record { mark = Entry 32777; index = 1 }) }) ∷ (record { byte = 0; piece = Some (record { mark = Entry 32777; index = 2 }) }) ∷ (record { byte = 0; piece = Some (record { mark = Entry 32777; index = 3 }) }) ∷ (record { byte = 9; piece = Some (record { mark = Entry 32777; index = 0 }) }) ∷ (record { byte = 128; piece = Some (record { mark = Entry 32777; index = 1 }) }) ∷ (record { byte = 0; piece = Some (record { mark = Entry 32777; index = 2 }) }) ∷ (record { byte = 0; piece = Some (record { mark = Entry 32777; index = 3 }) }) ∷ []

pub strong_is_object0 : is_object strong_object0 ≡ true
strong_is_object0 = refl

pub strong_is_object1 : is_object strong_object1 ≡ true
strong_is_object1 = refl

pub strong_is_object2 : is_object strong_object2 ≡ true
strong_is_object2 = refl

pub strong_parts : map as_part (all_placed strong_objects strong_at) ≡ (record { object = 0; code = true; ordinal = 0; start = 32768; size = 4 }) ∷ (record { object = 1; code = true; ordinal = 0; start = 32772; size = 4 }) ∷ (record { object = 2; code = true; ordinal = 0; start = 32776; size = 4 }) ∷ (record { object = 0; code = false; ordinal = 0; start = 32832; size = 4 }) ∷ (record { object = 1; code = false; ordinal = 0; start = 32836; size = 4 }) ∷ (record { object = 2; code = false; ordinal = 0; start = 32840; size = 4 }) ∷ []
strong_parts = refl

pub strong_entries : entries_of strong_objects (all_placed strong_objects strong_at) ≡ (record { name = codes "w"; address = 32777 }) ∷ []
strong_entries = refl

pub strong_size : length strong_code ≡ length (code_bytes_of strong_objects strong_at)
strong_size = refl

pub strong_data_size : length strong_cells ≡ length (data_bytes_of strong_objects strong_at)
strong_data_size = refl

pub strong_others : map (byte_at strong_code) (free (links strong_objects strong_at) 32768 (length strong_code)) ≡ map (byte_at (code_bytes_of strong_objects strong_at)) (free (links strong_objects strong_at) 32768 (length strong_code))
strong_others = refl

pub strong_data_others : map (λ x. get_or strong_cells x (bare 0)) (free (links strong_objects strong_at) 32832 (length strong_cells)) ≡ map (λ x. bare (byte_at (data_bytes_of strong_objects strong_at) x)) (free (links strong_objects strong_at) 32832 (length strong_cells))
strong_data_others = refl

abbrev pub strong_link0 : Link
strong_link0 = get_or (links strong_objects strong_at) 0 (record { file = 0; object = strong_object0; number = 0; reloc = (record { section = 1; offset = 0; kind = Abs32; symbol = 1 }); part = record { object = 0; index = 0; ordinal = 0; start = 0; section = (record { name = codes ".text"; kind = 1; flags = 6; align = 4; entry = 0; size = 4; bytes = 1 ∷ 32 ∷ 112 ∷ 71 ∷ [] }) }; symbol = (record { name = codes "$t"; value = 0; size = 0; bind = 0; kind = 0; other = 0; home = home.Section 0 }); meant = record { object = 0; index = 0; symbol = (record { name = codes "$t"; value = 0; size = 0; bind = 0; kind = 0; other = 0; home = home.Section 0 }) } })

pub strong_is_link0 : IsLink strong_objects strong_at strong_link0
strong_is_link0 = record { object = refl; reloc = refl; part = refl; symbol = refl; meant = refl }

pub strong_meant0 : (strong_link0).meant.object * 100 + (strong_link0).meant.index ≡ 201
strong_meant0 = refl

pub strong_full0 : full (all_placed strong_objects strong_at) strong_link0 ≡ 32777
unfolding full_rows half_rows on_condition_branch
strong_full0 = refl

pub strong_in_range0 : is_in_range (all_placed strong_objects strong_at) strong_link0 ≡ true
unfolding full_rows half_rows on_condition_branch
strong_in_range0 = refl

pub strong_written0 : AreWritten (all_placed strong_objects strong_at) strong_cells 32832 strong_link0
unfolding full_rows half_rows on_condition_branch
strong_written0 = refl

abbrev pub strong_link1 : Link
strong_link1 = get_or (links strong_objects strong_at) 1 (record { file = 0; object = strong_object0; number = 0; reloc = (record { section = 1; offset = 0; kind = Abs32; symbol = 1 }); part = record { object = 0; index = 0; ordinal = 0; start = 0; section = (record { name = codes ".text"; kind = 1; flags = 6; align = 4; entry = 0; size = 4; bytes = 2 ∷ 32 ∷ 112 ∷ 71 ∷ [] }) }; symbol = (record { name = codes "$t"; value = 0; size = 0; bind = 0; kind = 0; other = 0; home = home.Section 0 }); meant = record { object = 0; index = 0; symbol = (record { name = codes "$t"; value = 0; size = 0; bind = 0; kind = 0; other = 0; home = home.Section 0 }) } })

pub strong_is_link1 : IsLink strong_objects strong_at strong_link1
strong_is_link1 = record { object = refl; reloc = refl; part = refl; symbol = refl; meant = refl }

pub strong_meant1 : (strong_link1).meant.object * 100 + (strong_link1).meant.index ≡ 201
strong_meant1 = refl

pub strong_full1 : full (all_placed strong_objects strong_at) strong_link1 ≡ 32777
unfolding full_rows half_rows on_condition_branch
strong_full1 = refl

pub strong_in_range1 : is_in_range (all_placed strong_objects strong_at) strong_link1 ≡ true
unfolding full_rows half_rows on_condition_branch
strong_in_range1 = refl

pub strong_written1 : AreWritten (all_placed strong_objects strong_at) strong_cells 32832 strong_link1
unfolding full_rows half_rows on_condition_branch
strong_written1 = refl

abbrev pub strong_link2 : Link
strong_link2 = get_or (links strong_objects strong_at) 2 (record { file = 0; object = strong_object0; number = 0; reloc = (record { section = 1; offset = 0; kind = Abs32; symbol = 1 }); part = record { object = 0; index = 0; ordinal = 0; start = 0; section = (record { name = codes ".text"; kind = 1; flags = 6; align = 4; entry = 0; size = 4; bytes = 3 ∷ 32 ∷ 112 ∷ 71 ∷ [] }) }; symbol = (record { name = codes "$t"; value = 0; size = 0; bind = 0; kind = 0; other = 0; home = home.Section 0 }); meant = record { object = 0; index = 0; symbol = (record { name = codes "$t"; value = 0; size = 0; bind = 0; kind = 0; other = 0; home = home.Section 0 }) } })

pub strong_is_link2 : IsLink strong_objects strong_at strong_link2
strong_is_link2 = record { object = refl; reloc = refl; part = refl; symbol = refl; meant = refl }

pub strong_meant2 : (strong_link2).meant.object * 100 + (strong_link2).meant.index ≡ 201
strong_meant2 = refl

pub strong_full2 : full (all_placed strong_objects strong_at) strong_link2 ≡ 32777
unfolding full_rows half_rows on_condition_branch
strong_full2 = refl

pub strong_in_range2 : is_in_range (all_placed strong_objects strong_at) strong_link2 ≡ true
unfolding full_rows half_rows on_condition_branch
strong_in_range2 = refl

pub strong_written2 : AreWritten (all_placed strong_objects strong_at) strong_cells 32832 strong_link2
unfolding full_rows half_rows on_condition_branch
strong_written2 = refl

strong_are_links : EachLink (IsLink strong_objects strong_at) (links strong_objects strong_at)
strong_are_links = (strong_is_link0, (strong_is_link1, (strong_is_link2, tt)))

strong_in_code0 : InCode strong_objects strong_at strong_code strong_link0
unfolding full_rows half_rows on_condition_branch
strong_in_code0 = λ h. absurd (both_ways false refl h)

strong_in_data0 : InData strong_objects strong_at strong_cells strong_link0
unfolding full_rows half_rows on_condition_branch
strong_in_data0 = λ d. strong_written0

strong_in_code1 : InCode strong_objects strong_at strong_code strong_link1
unfolding full_rows half_rows on_condition_branch
strong_in_code1 = λ h. absurd (both_ways false refl h)

strong_in_data1 : InData strong_objects strong_at strong_cells strong_link1
unfolding full_rows half_rows on_condition_branch
strong_in_data1 = λ d. strong_written1

strong_in_code2 : InCode strong_objects strong_at strong_code strong_link2
unfolding full_rows half_rows on_condition_branch
strong_in_code2 = λ h. absurd (both_ways false refl h)

strong_in_data2 : InData strong_objects strong_at strong_cells strong_link2
unfolding full_rows half_rows on_condition_branch
strong_in_data2 = λ d. strong_written2

pub strong_linked_code : IsLinkedCode strong_objects strong_at strong_code
strong_linked_code = linked_code_is strong_objects strong_at strong_code strong_are_links refl refl refl (strong_in_code0, (strong_in_code1, (strong_in_code2, tt)))

pub strong_linked_data : IsLinkedData strong_objects strong_at (record { base = 32832; cells = strong_cells })
strong_linked_data = linked_data_is strong_objects strong_at strong_cells strong_are_links refl refl (strong_in_data0, (strong_in_data1, (strong_in_data2, tt)))
