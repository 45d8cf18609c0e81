-- Images of small objects, against those of a linker that was made apart from these definitions.
use Rattle.std.specs.Prelude.{◌≡◌, ℕ, List, [], ◌∷◌, ◌+◌, ◌-◌, ◌*◌, length, map, get_or, Some, true, false, refl, codes}
use Rattle.elf_model.specs.declared.objects.Home.TheVariants as home
use Rattle.elf_model.specs.declared.objects.RelocKind.TheVariants.{Abs32, Target1, ThmCall, MovwAbs, MovtAbs}
use Rattle.elf_model.specs.Fields.{byte_at}
use Rattle.elf_model.specs.Objects.{ObjectParts, is_object}
use Rattle.elf_model.specs.Ranges.{length_at}
use Rattle.mark_word.specs.declared.marks.Mark.TheVariants.{Plain, Entry, Low}
use Rattle.mark_word.specs.Words.{Cell, bare}
use Rattle.thumb_instr.specs.FullRows.{full_rows, on_condition_branch}
use Rattle.thumb_instr.specs.HalfRows.{half_rows}
use Rattle.thumb_table.specs.declared.placements.Placement.{Placement}
use Rattle.reloc_places.specs.Starts.{decoded_at}
use Rattle.thumb_table.specs.Layouts.{all_placed, as_part, code_bytes_of, data_bytes_of}
use Rattle.thumb_table.specs.Names.{entries_of}
use Rattle.thumb_table.specs.Links.{Link, IsLink, AreWritten, place_of, value_of, full, mark_of, is_in_range}
use Rattle.thumb_table.specs.Images.{IsLinkedCode, IsLinkedData}
use Rattle.thumb_table.proofs.LinkChecks.{links, free, renumbered_answer}
use Rattle.thumb_table.proofs.LinkComparing.{instr_of}
use Rattle.thumb_table.proofs.LinkEach.{EachLink, InCode, InData, linked_code_is, linked_data_is}
use Rattle.std.proofs.lemmas.Bool.{both_ways}

-- halves with addends, calls backwards, alignments, a word at an odd offset, a weak symbol that means data of another object
abbrev pub mixed_object0 : ObjectParts
mixed_object0 = record {
  sections = (record { name = codes ".text"; kind = 1; flags = 6; align = 2; entry = 0; size = 14; bytes = 79 ∷ 242 ∷ 252 ∷ 112 ∷ 207 ∷ 246 ∷ 252 ∷ 112 ∷ 255 ∷ 247 ∷ 252 ∷ 255 ∷ 112 ∷ 71 ∷ [] }) ∷
      (record { name = codes ".data"; kind = 1; flags = 3; align = 1; entry = 0; size = 7; bytes = 1 ∷ 253 ∷ 255 ∷ 255 ∷ 255 ∷ 2 ∷ 3 ∷ [] }) ∷
      (record { name = codes ".bss"; kind = 8; flags = 3; align = 16; entry = 0; size = 5; bytes = [] }) ∷
      [];
  symbols = (record { name = codes "$t"; value = 0; size = 0; bind = 0; kind = 0; other = 0; home = home.Section 0 }) ∷
      (record { name = codes ".L"; value = 8; size = 0; bind = 0; kind = 0; other = 0; home = home.Section 0 }) ∷
      (record { name = codes "a"; value = 1; size = 14; bind = 2; kind = 2; other = 0; home = home.Section 0 }) ∷
      (record { name = codes "b"; value = 4; size = 1; bind = 2; kind = 1; other = 0; home = home.Section 2 }) ∷
      (record { name = codes "c"; value = 0; size = 0; bind = 1; kind = 0; other = 0; home = home.Undefined }) ∷
      [];
  relocs = (record { section = 0; offset = 0; kind = MovwAbs; symbol = 2 }) ∷
      (record { section = 0; offset = 4; kind = MovtAbs; symbol = 2 }) ∷
      (record { section = 0; offset = 8; kind = ThmCall; symbol = 1 }) ∷
      (record { section = 1; offset = 1; kind = Abs32; symbol = 3 }) ∷
      [];
  flags = 83886080;
}

abbrev pub mixed_object1 : ObjectParts
mixed_object1 = record {
  sections = (record { name = codes ".text"; kind = 1; flags = 6; align = 16; entry = 0; size = 14; bytes = 64 ∷ 242 ∷ 0 ∷ 0 ∷ 192 ∷ 242 ∷ 0 ∷ 0 ∷ 255 ∷ 247 ∷ 254 ∷ 255 ∷ 112 ∷ 71 ∷ [] }) ∷
      (record { name = codes ".rodata"; kind = 1; flags = 2; align = 8; entry = 0; size = 4; bytes = 0 ∷ 0 ∷ 0 ∷ 0 ∷ [] }) ∷
      (record { name = codes ".text.c"; kind = 1; flags = 6; align = 1; entry = 0; size = 2; bytes = 112 ∷ 71 ∷ [] }) ∷
      [];
  symbols = (record { name = codes "$t"; value = 0; size = 0; bind = 0; kind = 0; other = 0; home = home.Section 0 }) ∷
      (record { name = codes "$t.1"; value = 0; size = 0; bind = 0; kind = 0; other = 0; home = home.Section 2 }) ∷
      (record { name = codes "c"; value = 1; size = 2; bind = 1; kind = 2; other = 0; home = home.Section 2 }) ∷
      (record { name = codes "b"; value = 2; size = 2; bind = 1; kind = 1; other = 0; home = home.Section 1 }) ∷
      (record { name = codes "a"; value = 0; size = 0; bind = 1; kind = 0; other = 0; home = home.Undefined }) ∷
      (record { name = codes "n"; value = 1; size = 2; bind = 1; kind = 0; other = 0; home = home.Section 2 }) ∷
      [];
  relocs = (record { section = 0; offset = 0; kind = MovwAbs; symbol = 2 }) ∷
      (record { section = 0; offset = 4; kind = MovtAbs; symbol = 5 }) ∷
      (record { section = 0; offset = 8; kind = ThmCall; symbol = 4 }) ∷
      (record { section = 1; offset = 0; kind = Target1; symbol = 5 }) ∷
      [];
  flags = 83886080;
}

abbrev pub mixed_objects : List ObjectParts
mixed_objects = mixed_object0 ∷ mixed_object1 ∷ []

abbrev pub mixed_at : Placement
mixed_at = record { base = 28672; room = 64; stack = 65536 }

abbrev pub mixed_code : List ℕ
mixed_code = 70 ∷ 242 ∷ 253 ∷ 112 ∷ 192 ∷ 242 ∷ 0 ∷ 0 ∷ 255 ∷ 247 ∷ 252 ∷ 255 ∷ 112 ∷ 71 ∷ 0 ∷ 0 ∷ 71 ∷ 242 ∷ 33 ∷ 0 ∷ 192 ∷ 242 ∷ 0 ∷ 0 ∷ 255 ∷ 247 ∷ 242 ∷ 255 ∷ 112 ∷ 71 ∷ 0 ∷ 0 ∷ 112 ∷ 71 ∷ []

abbrev pub mixed_cells : List Cell
mixed_cells = (bare 1) ∷ (bare 87) ∷ (bare 112) ∷ (bare 0) ∷ (bare 0) ∷ (bare 2) ∷ (bare 3) ∷ (bare 0) ∷ (bare 0) ∷ (bare 0) ∷ (bare 0) ∷ (bare 0) ∷ (bare 0) ∷ (bare 0) ∷ (bare 0) ∷ (bare 0) ∷ (bare 0) ∷ (bare 0) ∷ (bare 0) ∷ (bare 0) ∷ (bare 0) ∷ (bare 0) ∷ (bare 0) ∷ (bare 0) ∷ (record { byte = 33; piece = Some (record { mark = Entry 28705; index = 0 }) }) ∷ (record { byte = 112; piece = Some (record { mark = Entry 28705; index = 1 }) }) ∷ (record { byte = 0; piece = Some (record { mark = Entry 28705; index = 2 }) }) ∷ (record { byte = 0; piece = Some (record { mark = Entry 28705; index = 3 }) }) ∷ []

pub mixed_is_object0 : is_object mixed_object0 ≡ true
mixed_is_object0 = refl

pub mixed_is_object1 : is_object mixed_object1 ≡ true
mixed_is_object1 = refl

pub mixed_parts : map as_part (all_placed mixed_objects mixed_at) ≡ (record { object = 0; code = true; ordinal = 0; start = 28672; size = 14 }) ∷ (record { object = 1; code = true; ordinal = 0; start = 28688; size = 14 }) ∷ (record { object = 1; code = true; ordinal = 1; start = 28704; size = 2 }) ∷ (record { object = 0; code = false; ordinal = 0; start = 28736; size = 7 }) ∷ (record { object = 0; code = false; ordinal = 1; start = 28752; size = 5 }) ∷ (record { object = 1; code = false; ordinal = 0; start = 28760; size = 4 }) ∷ []
mixed_parts = refl

pub mixed_entries : entries_of mixed_objects (all_placed mixed_objects mixed_at) ≡ (record { name = codes "a"; address = 28673 }) ∷ (record { name = codes "c"; address = 28705 }) ∷ []
mixed_entries = refl

pub mixed_size : length mixed_code ≡ length (code_bytes_of mixed_objects mixed_at)
mixed_size = refl

pub mixed_data_size : length mixed_cells ≡ length (data_bytes_of mixed_objects mixed_at)
mixed_data_size = refl

pub mixed_others : map (byte_at mixed_code) (free (links mixed_objects mixed_at) 28672 (length mixed_code)) ≡ map (byte_at (code_bytes_of mixed_objects mixed_at)) (free (links mixed_objects mixed_at) 28672 (length mixed_code))
mixed_others = refl

pub mixed_data_others : map (λ x. get_or mixed_cells x (bare 0)) (free (links mixed_objects mixed_at) 28736 (length mixed_cells)) ≡ map (λ x. bare (byte_at (data_bytes_of mixed_objects mixed_at) x)) (free (links mixed_objects mixed_at) 28736 (length mixed_cells))
mixed_data_others = refl

abbrev pub mixed_link0 : Link
mixed_link0 = get_or (links mixed_objects mixed_at) 0 (record { file = 0; object = mixed_object0; number = 0; reloc = (record { section = 0; offset = 0; kind = MovwAbs; symbol = 2 }); part = record { object = 0; index = 0; ordinal = 0; start = 0; section = (record { name = codes ".text"; kind = 1; flags = 6; align = 2; entry = 0; size = 14; bytes = 79 ∷ 242 ∷ 252 ∷ 112 ∷ 207 ∷ 246 ∷ 252 ∷ 112 ∷ 255 ∷ 247 ∷ 252 ∷ 255 ∷ 112 ∷ 71 ∷ [] }) }; symbol = (record { name = codes "$t"; value = 0; size = 0; bind = 0; kind = 0; other = 0; home = home.Section 0 }); meant = record { object = 0; index = 0; symbol = (record { name = codes "$t"; value = 0; size = 0; bind = 0; kind = 0; other = 0; home = home.Section 0 }) } })

pub mixed_is_link0 : IsLink mixed_objects mixed_at mixed_link0
mixed_is_link0 = record { object = refl; reloc = refl; part = refl; symbol = refl; meant = refl }

pub mixed_meant0 : (mixed_link0).meant.object * 100 + (mixed_link0).meant.index ≡ 2
mixed_meant0 = refl

pub mixed_full0 : full (all_placed mixed_objects mixed_at) mixed_link0 ≡ 26621
unfolding full_rows half_rows on_condition_branch
mixed_full0 = refl

pub mixed_in_range0 : is_in_range (all_placed mixed_objects mixed_at) mixed_link0 ≡ true
unfolding full_rows half_rows on_condition_branch
mixed_in_range0 = refl

pub mixed_written0 : decoded_at mixed_code (place_of mixed_link0 - 28672) 0 ≡ renumbered_answer (value_of (all_placed mixed_objects mixed_at) mixed_link0) (decoded_at (mixed_link0).part.section.bytes 0 0)
unfolding full_rows half_rows on_condition_branch
mixed_written0 = refl

pub mixed_width0 : length_at mixed_code (place_of mixed_link0 - 28672) ≡ length_at (mixed_link0).part.section.bytes 0
unfolding full_rows half_rows on_condition_branch
mixed_width0 = refl

pub mixed_mark0 : mark_of (all_placed mixed_objects mixed_at) mixed_link0 ≡ Low 26621
unfolding full_rows half_rows on_condition_branch
mixed_mark0 = refl

abbrev pub mixed_link1 : Link
mixed_link1 = get_or (links mixed_objects mixed_at) 1 (record { file = 0; object = mixed_object0; number = 0; reloc = (record { section = 0; offset = 4; kind = MovtAbs; symbol = 2 }); part = record { object = 0; index = 0; ordinal = 0; start = 0; section = (record { name = codes ".text"; kind = 1; flags = 6; align = 2; entry = 0; size = 14; bytes = 79 ∷ 242 ∷ 252 ∷ 112 ∷ 207 ∷ 246 ∷ 252 ∷ 112 ∷ 255 ∷ 247 ∷ 252 ∷ 255 ∷ 112 ∷ 71 ∷ [] }) }; symbol = (record { name = codes "$t"; value = 0; size = 0; bind = 0; kind = 0; other = 0; home = home.Section 0 }); meant = record { object = 0; index = 0; symbol = (record { name = codes "$t"; value = 0; size = 0; bind = 0; kind = 0; other = 0; home = home.Section 0 }) } })

pub mixed_is_link1 : IsLink mixed_objects mixed_at mixed_link1
mixed_is_link1 = record { object = refl; reloc = refl; part = refl; symbol = refl; meant = refl }

pub mixed_meant1 : (mixed_link1).meant.object * 100 + (mixed_link1).meant.index ≡ 2
mixed_meant1 = refl

pub mixed_full1 : full (all_placed mixed_objects mixed_at) mixed_link1 ≡ 28669
unfolding full_rows half_rows on_condition_branch
mixed_full1 = refl

pub mixed_in_range1 : is_in_range (all_placed mixed_objects mixed_at) mixed_link1 ≡ true
unfolding full_rows half_rows on_condition_branch
mixed_in_range1 = refl

pub mixed_written1 : decoded_at mixed_code (place_of mixed_link1 - 28672) 0 ≡ renumbered_answer (value_of (all_placed mixed_objects mixed_at) mixed_link1) (decoded_at (mixed_link1).part.section.bytes 4 0)
unfolding full_rows half_rows on_condition_branch
mixed_written1 = refl

pub mixed_width1 : length_at mixed_code (place_of mixed_link1 - 28672) ≡ length_at (mixed_link1).part.section.bytes 4
unfolding full_rows half_rows on_condition_branch
mixed_width1 = refl

pub mixed_mark1 : mark_of (all_placed mixed_objects mixed_at) mixed_link1 ≡ Entry 28669
unfolding full_rows half_rows on_condition_branch
mixed_mark1 = refl

abbrev pub mixed_link2 : Link
mixed_link2 = get_or (links mixed_objects mixed_at) 2 (record { file = 0; object = mixed_object0; number = 0; reloc = (record { section = 0; offset = 8; kind = ThmCall; symbol = 1 }); part = record { object = 0; index = 0; ordinal = 0; start = 0; section = (record { name = codes ".text"; kind = 1; flags = 6; align = 2; entry = 0; size = 14; bytes = 79 ∷ 242 ∷ 252 ∷ 112 ∷ 207 ∷ 246 ∷ 252 ∷ 112 ∷ 255 ∷ 247 ∷ 252 ∷ 255 ∷ 112 ∷ 71 ∷ [] }) }; symbol = (record { name = codes "$t"; value = 0; size = 0; bind = 0; kind = 0; other = 0; home = home.Section 0 }); meant = record { object = 0; index = 0; symbol = (record { name = codes "$t"; value = 0; size = 0; bind = 0; kind = 0; other = 0; home = home.Section 0 }) } })

pub mixed_is_link2 : IsLink mixed_objects mixed_at mixed_link2
mixed_is_link2 = record { object = refl; reloc = refl; part = refl; symbol = refl; meant = refl }

pub mixed_meant2 : (mixed_link2).meant.object * 100 + (mixed_link2).meant.index ≡ 1
mixed_meant2 = refl

pub mixed_full2 : full (all_placed mixed_objects mixed_at) mixed_link2 ≡ 28672
unfolding full_rows half_rows on_condition_branch
mixed_full2 = refl

pub mixed_in_range2 : is_in_range (all_placed mixed_objects mixed_at) mixed_link2 ≡ true
unfolding full_rows half_rows on_condition_branch
mixed_in_range2 = refl

pub mixed_written2 : decoded_at mixed_code (place_of mixed_link2 - 28672) 0 ≡ renumbered_answer (value_of (all_placed mixed_objects mixed_at) mixed_link2) (decoded_at (mixed_link2).part.section.bytes 8 0)
unfolding full_rows half_rows on_condition_branch
mixed_written2 = refl

pub mixed_width2 : length_at mixed_code (place_of mixed_link2 - 28672) ≡ length_at (mixed_link2).part.section.bytes 8
unfolding full_rows half_rows on_condition_branch
mixed_width2 = refl

pub mixed_mark2 : mark_of (all_placed mixed_objects mixed_at) mixed_link2 ≡ Plain
unfolding full_rows half_rows on_condition_branch
mixed_mark2 = refl

abbrev pub mixed_link3 : Link
mixed_link3 = get_or (links mixed_objects mixed_at) 3 (record { file = 0; object = mixed_object0; number = 0; reloc = (record { section = 1; offset = 1; kind = Abs32; symbol = 3 }); part = record { object = 0; index = 0; ordinal = 0; start = 0; section = (record { name = codes ".text"; kind = 1; flags = 6; align = 2; entry = 0; size = 14; bytes = 79 ∷ 242 ∷ 252 ∷ 112 ∷ 207 ∷ 246 ∷ 252 ∷ 112 ∷ 255 ∷ 247 ∷ 252 ∷ 255 ∷ 112 ∷ 71 ∷ [] }) }; symbol = (record { name = codes "$t"; value = 0; size = 0; bind = 0; kind = 0; other = 0; home = home.Section 0 }); meant = record { object = 0; index = 0; symbol = (record { name = codes "$t"; value = 0; size = 0; bind = 0; kind = 0; other = 0; home = home.Section 0 }) } })

pub mixed_is_link3 : IsLink mixed_objects mixed_at mixed_link3
mixed_is_link3 = record { object = refl; reloc = refl; part = refl; symbol = refl; meant = refl }

pub mixed_meant3 : (mixed_link3).meant.object * 100 + (mixed_link3).meant.index ≡ 103
mixed_meant3 = refl

pub mixed_full3 : full (all_placed mixed_objects mixed_at) mixed_link3 ≡ 28759
unfolding full_rows half_rows on_condition_branch
mixed_full3 = refl

pub mixed_in_range3 : is_in_range (all_placed mixed_objects mixed_at) mixed_link3 ≡ true
unfolding full_rows half_rows on_condition_branch
mixed_in_range3 = refl

pub mixed_written3 : AreWritten (all_placed mixed_objects mixed_at) mixed_cells 28736 mixed_link3
unfolding full_rows half_rows on_condition_branch
mixed_written3 = refl

abbrev pub mixed_link4 : Link
mixed_link4 = get_or (links mixed_objects mixed_at) 4 (record { file = 0; object = mixed_object0; number = 0; reloc = (record { section = 0; offset = 0; kind = MovwAbs; symbol = 2 }); part = record { object = 0; index = 0; ordinal = 0; start = 0; section = (record { name = codes ".text"; kind = 1; flags = 6; align = 16; entry = 0; size = 14; bytes = 64 ∷ 242 ∷ 0 ∷ 0 ∷ 192 ∷ 242 ∷ 0 ∷ 0 ∷ 255 ∷ 247 ∷ 254 ∷ 255 ∷ 112 ∷ 71 ∷ [] }) }; symbol = (record { name = codes "$t"; value = 0; size = 0; bind = 0; kind = 0; other = 0; home = home.Section 0 }); meant = record { object = 0; index = 0; symbol = (record { name = codes "$t"; value = 0; size = 0; bind = 0; kind = 0; other = 0; home = home.Section 0 }) } })

pub mixed_is_link4 : IsLink mixed_objects mixed_at mixed_link4
mixed_is_link4 = record { object = refl; reloc = refl; part = refl; symbol = refl; meant = refl }

pub mixed_meant4 : (mixed_link4).meant.object * 100 + (mixed_link4).meant.index ≡ 102
mixed_meant4 = refl

pub mixed_full4 : full (all_placed mixed_objects mixed_at) mixed_link4 ≡ 28705
unfolding full_rows half_rows on_condition_branch
mixed_full4 = refl

pub mixed_in_range4 : is_in_range (all_placed mixed_objects mixed_at) mixed_link4 ≡ true
unfolding full_rows half_rows on_condition_branch
mixed_in_range4 = refl

pub mixed_written4 : decoded_at mixed_code (place_of mixed_link4 - 28672) 0 ≡ renumbered_answer (value_of (all_placed mixed_objects mixed_at) mixed_link4) (decoded_at (mixed_link4).part.section.bytes 0 0)
unfolding full_rows half_rows on_condition_branch
mixed_written4 = refl

pub mixed_width4 : length_at mixed_code (place_of mixed_link4 - 28672) ≡ length_at (mixed_link4).part.section.bytes 0
unfolding full_rows half_rows on_condition_branch
mixed_width4 = refl

pub mixed_mark4 : mark_of (all_placed mixed_objects mixed_at) mixed_link4 ≡ Low 28705
unfolding full_rows half_rows on_condition_branch
mixed_mark4 = refl

abbrev pub mixed_link5 : Link
mixed_link5 = get_or (links mixed_objects mixed_at) 5 (record { file = 0; object = mixed_object0; number = 0; reloc = (record { section = 0; offset = 4; kind = MovtAbs; symbol = 5 }); part = record { object = 0; index = 0; ordinal = 0; start = 0; section = (record { name = codes ".text"; kind = 1; flags = 6; align = 16; entry = 0; size = 14; bytes = 64 ∷ 242 ∷ 0 ∷ 0 ∷ 192 ∷ 242 ∷ 0 ∷ 0 ∷ 255 ∷ 247 ∷ 254 ∷ 255 ∷ 112 ∷ 71 ∷ [] }) }; symbol = (record { name = codes "$t"; value = 0; size = 0; bind = 0; kind = 0; other = 0; home = home.Section 0 }); meant = record { object = 0; index = 0; symbol = (record { name = codes "$t"; value = 0; size = 0; bind = 0; kind = 0; other = 0; home = home.Section 0 }) } })

pub mixed_is_link5 : IsLink mixed_objects mixed_at mixed_link5
mixed_is_link5 = record { object = refl; reloc = refl; part = refl; symbol = refl; meant = refl }

pub mixed_meant5 : (mixed_link5).meant.object * 100 + (mixed_link5).meant.index ≡ 105
mixed_meant5 = refl

pub mixed_full5 : full (all_placed mixed_objects mixed_at) mixed_link5 ≡ 28705
unfolding full_rows half_rows on_condition_branch
mixed_full5 = refl

pub mixed_in_range5 : is_in_range (all_placed mixed_objects mixed_at) mixed_link5 ≡ true
unfolding full_rows half_rows on_condition_branch
mixed_in_range5 = refl

pub mixed_written5 : decoded_at mixed_code (place_of mixed_link5 - 28672) 0 ≡ renumbered_answer (value_of (all_placed mixed_objects mixed_at) mixed_link5) (decoded_at (mixed_link5).part.section.bytes 4 0)
unfolding full_rows half_rows on_condition_branch
mixed_written5 = refl

pub mixed_width5 : length_at mixed_code (place_of mixed_link5 - 28672) ≡ length_at (mixed_link5).part.section.bytes 4
unfolding full_rows half_rows on_condition_branch
mixed_width5 = refl

pub mixed_mark5 : mark_of (all_placed mixed_objects mixed_at) mixed_link5 ≡ Entry 28705
unfolding full_rows half_rows on_condition_branch
mixed_mark5 = refl

abbrev pub mixed_link6 : Link
mixed_link6 = get_or (links mixed_objects mixed_at) 6 (record { file = 0; object = mixed_object0; number = 0; reloc = (record { section = 0; offset = 8; kind = ThmCall; symbol = 4 }); part = record { object = 0; index = 0; ordinal = 0; start = 0; section = (record { name = codes ".text"; kind = 1; flags = 6; align = 16; entry = 0; size = 14; bytes = 64 ∷ 242 ∷ 0 ∷ 0 ∷ 192 ∷ 242 ∷ 0 ∷ 0 ∷ 255 ∷ 247 ∷ 254 ∷ 255 ∷ 112 ∷ 71 ∷ [] }) }; symbol = (record { name = codes "$t"; value = 0; size = 0; bind = 0; kind = 0; other = 0; home = home.Section 0 }); meant = record { object = 0; index = 0; symbol = (record { name = codes "$t"; value = 0; size = 0; bind = 0; kind = 0; other = 0; home = home.Section 0 }) } })

pub mixed_is_link6 : IsLink mixed_objects mixed_at mixed_link6
mixed_is_link6 = record { object = refl; reloc = refl; part = refl; symbol = refl; meant = refl }

pub mixed_meant6 : (mixed_link6).meant.object * 100 + (mixed_link6).meant.index ≡ 2
mixed_meant6 = refl

pub mixed_full6 : full (all_placed mixed_objects mixed_at) mixed_link6 ≡ 28669
unfolding full_rows half_rows on_condition_branch
mixed_full6 = refl

pub mixed_in_range6 : is_in_range (all_placed mixed_objects mixed_at) mixed_link6 ≡ true
unfolding full_rows half_rows on_condition_branch
mixed_in_range6 = refl

pub mixed_written6 : decoded_at mixed_code (place_of mixed_link6 - 28672) 0 ≡ renumbered_answer (value_of (all_placed mixed_objects mixed_at) mixed_link6) (decoded_at (mixed_link6).part.section.bytes 8 0)
unfolding full_rows half_rows on_condition_branch
mixed_written6 = refl

pub mixed_width6 : length_at mixed_code (place_of mixed_link6 - 28672) ≡ length_at (mixed_link6).part.section.bytes 8
unfolding full_rows half_rows on_condition_branch
mixed_width6 = refl

pub mixed_mark6 : mark_of (all_placed mixed_objects mixed_at) mixed_link6 ≡ Plain
unfolding full_rows half_rows on_condition_branch
mixed_mark6 = refl

abbrev pub mixed_link7 : Link
mixed_link7 = get_or (links mixed_objects mixed_at) 7 (record { file = 0; object = mixed_object0; number = 0; reloc = (record { section = 1; offset = 0; kind = Target1; symbol = 5 }); part = record { object = 0; index = 0; ordinal = 0; start = 0; section = (record { name = codes ".text"; kind = 1; flags = 6; align = 16; entry = 0; size = 14; bytes = 64 ∷ 242 ∷ 0 ∷ 0 ∷ 192 ∷ 242 ∷ 0 ∷ 0 ∷ 255 ∷ 247 ∷ 254 ∷ 255 ∷ 112 ∷ 71 ∷ [] }) }; symbol = (record { name = codes "$t"; value = 0; size = 0; bind = 0; kind = 0; other = 0; home = home.Section 0 }); meant = record { object = 0; index = 0; symbol = (record { name = codes "$t"; value = 0; size = 0; bind = 0; kind = 0; other = 0; home = home.Section 0 }) } })

pub mixed_is_link7 : IsLink mixed_objects mixed_at mixed_link7
mixed_is_link7 = record { object = refl; reloc = refl; part = refl; symbol = refl; meant = refl }

pub mixed_meant7 : (mixed_link7).meant.object * 100 + (mixed_link7).meant.index ≡ 105
mixed_meant7 = refl

pub mixed_full7 : full (all_placed mixed_objects mixed_at) mixed_link7 ≡ 28705
unfolding full_rows half_rows on_condition_branch
mixed_full7 = refl

pub mixed_in_range7 : is_in_range (all_placed mixed_objects mixed_at) mixed_link7 ≡ true
unfolding full_rows half_rows on_condition_branch
mixed_in_range7 = refl

pub mixed_written7 : AreWritten (all_placed mixed_objects mixed_at) mixed_cells 28736 mixed_link7
unfolding full_rows half_rows on_condition_branch
mixed_written7 = refl

mixed_are_links : EachLink (IsLink mixed_objects mixed_at) (links mixed_objects mixed_at)
mixed_are_links = (mixed_is_link0, (mixed_is_link1, (mixed_is_link2, (mixed_is_link3, (mixed_is_link4, (mixed_is_link5, (mixed_is_link6, (mixed_is_link7, tt))))))))

mixed_in_code0 : InCode mixed_objects mixed_at mixed_code mixed_link0
unfolding full_rows half_rows on_condition_branch
mixed_in_code0 = λ c. record { of_word = λ h. absurd (both_ways false refl h); of_instr = λ h. record { instr = instr_of (decoded_at (mixed_link0).part.section.bytes 0 0) refl; was = refl; becomes = refl; width = refl } }

mixed_in_data0 : InData mixed_objects mixed_at mixed_cells mixed_link0
unfolding full_rows half_rows on_condition_branch
mixed_in_data0 = λ h. absurd (both_ways false refl h)

mixed_in_code1 : InCode mixed_objects mixed_at mixed_code mixed_link1
unfolding full_rows half_rows on_condition_branch
mixed_in_code1 = λ c. record { of_word = λ h. absurd (both_ways false refl h); of_instr = λ h. record { instr = instr_of (decoded_at (mixed_link1).part.section.bytes 4 0) refl; was = refl; becomes = refl; width = refl } }

mixed_in_data1 : InData mixed_objects mixed_at mixed_cells mixed_link1
unfolding full_rows half_rows on_condition_branch
mixed_in_data1 = λ h. absurd (both_ways false refl h)

mixed_in_code2 : InCode mixed_objects mixed_at mixed_code mixed_link2
unfolding full_rows half_rows on_condition_branch
mixed_in_code2 = λ c. record { of_word = λ h. absurd (both_ways false refl h); of_instr = λ h. record { instr = instr_of (decoded_at (mixed_link2).part.section.bytes 8 0) refl; was = refl; becomes = refl; width = refl } }

mixed_in_data2 : InData mixed_objects mixed_at mixed_cells mixed_link2
unfolding full_rows half_rows on_condition_branch
mixed_in_data2 = λ h. absurd (both_ways false refl h)

mixed_in_code3 : InCode mixed_objects mixed_at mixed_code mixed_link3
unfolding full_rows half_rows on_condition_branch
mixed_in_code3 = λ h. absurd (both_ways false refl h)

mixed_in_data3 : InData mixed_objects mixed_at mixed_cells mixed_link3
unfolding full_rows half_rows on_condition_branch
mixed_in_data3 = λ d. mixed_written3

mixed_in_code4 : InCode mixed_objects mixed_at mixed_code mixed_link4
unfolding full_rows half_rows on_condition_branch
mixed_in_code4 = λ c. record { of_word = λ h. absurd (both_ways false refl h); of_instr = λ h. record { instr = instr_of (decoded_at (mixed_link4).part.section.bytes 0 0) refl; was = refl; becomes = refl; width = refl } }

mixed_in_data4 : InData mixed_objects mixed_at mixed_cells mixed_link4
unfolding full_rows half_rows on_condition_branch
mixed_in_data4 = λ h. absurd (both_ways false refl h)

mixed_in_code5 : InCode mixed_objects mixed_at mixed_code mixed_link5
unfolding full_rows half_rows on_condition_branch
mixed_in_code5 = λ c. record { of_word = λ h. absurd (both_ways false refl h); of_instr = λ h. record { instr = instr_of (decoded_at (mixed_link5).part.section.bytes 4 0) refl; was = refl; becomes = refl; width = refl } }

mixed_in_data5 : InData mixed_objects mixed_at mixed_cells mixed_link5
unfolding full_rows half_rows on_condition_branch
mixed_in_data5 = λ h. absurd (both_ways false refl h)

mixed_in_code6 : InCode mixed_objects mixed_at mixed_code mixed_link6
unfolding full_rows half_rows on_condition_branch
mixed_in_code6 = λ c. record { of_word = λ h. absurd (both_ways false refl h); of_instr = λ h. record { instr = instr_of (decoded_at (mixed_link6).part.section.bytes 8 0) refl; was = refl; becomes = refl; width = refl } }

mixed_in_data6 : InData mixed_objects mixed_at mixed_cells mixed_link6
unfolding full_rows half_rows on_condition_branch
mixed_in_data6 = λ h. absurd (both_ways false refl h)

mixed_in_code7 : InCode mixed_objects mixed_at mixed_code mixed_link7
unfolding full_rows half_rows on_condition_branch
mixed_in_code7 = λ h. absurd (both_ways false refl h)

mixed_in_data7 : InData mixed_objects mixed_at mixed_cells mixed_link7
unfolding full_rows half_rows on_condition_branch
mixed_in_data7 = λ d. mixed_written7

pub mixed_linked_code : IsLinkedCode mixed_objects mixed_at mixed_code
mixed_linked_code = linked_code_is mixed_objects mixed_at mixed_code mixed_are_links refl refl refl (mixed_in_code0, (mixed_in_code1, (mixed_in_code2, (mixed_in_code3, (mixed_in_code4, (mixed_in_code5, (mixed_in_code6, (mixed_in_code7, tt))))))))

pub mixed_linked_data : IsLinkedData mixed_objects mixed_at (record { base = 28736; cells = mixed_cells })
mixed_linked_data = linked_data_is mixed_objects mixed_at mixed_cells mixed_are_links refl refl (mixed_in_data0, (mixed_in_data1, (mixed_in_data2, (mixed_in_data3, (mixed_in_data4, (mixed_in_data5, (mixed_in_data6, (mixed_in_data7, tt))))))))
