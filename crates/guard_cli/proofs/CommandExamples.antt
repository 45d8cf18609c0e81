-- The definitions of `link` and `run`, on small objects.
use Rattle.std.proofs.Common.{◌≡◌, [], ◌∷◌, true, refl, codes}
use Rattle.std.specs.Fmt.{digits}
use Rattle.thumb_table.specs.declared.faults.FaultKind.TheVariants.{BadFetch}
use Rattle.elf_model.specs.declared.objects.Section.{Section}
use Rattle.elf_model.specs.Objects.{is_code}
use Rattle.thumb_table.specs.Images.{is_data}
use Rattle.guard_cli.specs.Texts.{line, link_line, returned_line, stopped_line, unfinished_line, word_text}
use Rattle.guard_cli.specs.LinkWork.{bytes_of}

word_is : word_text 0x8004 ≡ codes "0x00008004"
unfolding digits
word_is = refl

linked : link_line 8 0 ≡ line (codes "linked 8 bytes of code, 0 bytes of data")
unfolding digits
linked = refl

returned : returned_line 3 5 true ≡ line (codes "returned after 3 steps, r0 0x00000005, ordinary yes")
unfolding digits
returned = refl

stopped : stopped_line BadFetch 0x8004 2 ≡ line (codes "stopped BadFetch at 0x00008004 after 2 steps")
unfolding digits
stopped = refl

unfinished : unfinished_line 2 ≡ line (codes "unfinished after 2 steps")
unfolding digits
unfinished = refl

-- code of eight bytes, and a section out of memory
abbrev code : Section
code = record { name = codes ".text"; kind = 1; flags = 6; align = 4; entry = 0; size = 8; bytes = 0x05 ∷ 0x20 ∷ 0x05 ∷ 0x20 ∷ 0x70 ∷ 0x47 ∷ 0x70 ∷ 0x47 ∷ [] }

abbrev note : Section
note = record { name = codes ".comment"; kind = 1; flags = 0; align = 1; entry = 0; size = 1; bytes = 0 ∷ [] }

bytes_of_code : bytes_of is_code (code ∷ note ∷ []) ≡ 8
bytes_of_code = refl

bytes_of_data : bytes_of is_data (code ∷ note ∷ []) ≡ 0
bytes_of_data = refl
