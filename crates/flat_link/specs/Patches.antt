-- What linking puts over the bytes of sections.
use Rattle.std.specs.Prelude.{◌≡◌, ◌<◌, ◌≤◌, ℕ, ◌+◌, ◌*◌, ◌%◌, ◌^◌, Bool, true, false, Option, Some, None, Ok, List, take, drop, ◌++◌, length, get_or, Contains}
use Rattle.elf_model.specs.Fields.{half, word, half_at}
use Rattle.elf_model.specs.Ranges.{is_long}
use Rattle.thumb_instr.specs.declared.instructions.Instr.{Instr}
use Rattle.thumb_instr.specs.declared.instructions.Instr.TheVariants.{Half, Branch, Call}
use Rattle.thumb_instr.specs.Numbers.{renumbered}
use Rattle.thumb_encode.specs.Encoding.{StandsFor, width_of}
use Rattle.reloc_places.specs.Starts.{decoded_at}
use Rattle.thumb_encode.specs.declared.codes.Code.{Code}
use Rattle.thumb_encode.specs.declared.codes.Code.TheVariants as code
use Rattle.thumb_encode.specs.declared.codes.Width.{Width}
use Rattle.thumb_encode.specs.declared.codes.Width.TheVariants as width
use Rattle.thumb_table.specs.Links.{Link, covers}

-- a run over what stands from an offset on
abbrev pub put_over : {X : Type 0} → List X → ℕ → List X → List X
put_over xs x run = take x xs ++ (run ++ drop (x + length run) xs)

-- a run of so many elements was put there
pub record IsPut {X : Type 0} (old : List X) (x n : ℕ) (new : List X) : Type 0 where
  pub run : List X
  pub size : length run ≡ n
  pub inside : x + n ≤ length old
  pub is : new ≡ put_over old x run

-- halfwords as bytes
abbrev pub code_bytes : Code → List ℕ
code_bytes (code.Half h) = half h
code_bytes (code.Full first second) = word (first + 2 ^ 16 * second)

-- a number that an instruction may have
abbrev pub IsNumberOf : Instr → ℕ → Type 0
IsNumberOf (Half i) n = n < 2 ^ 16
IsNumberOf (Branch i) n = n % 2 ≡ 0
IsNumberOf (Call i) n = n % 2 ≡ 0
IsNumberOf i n = ⊥

-- Of some links of a sort, each is written over the raw list, and else that is as it was.
pub record AreLaid {X : Type 0} (sort : Link → Bool) (Written : List X → Link → Type 0) (base : ℕ) (done : List Link) (empty : X) (raw now : List X) : Type 0 where
  pub size : length now ≡ length raw
  pub others : (x : ℕ) → ((l : Link) → Contains done l → sort l ≡ true → covers (base + x) l ≡ false) → get_or now x empty ≡ get_or raw x empty
  pub linked : (l : Link) → Contains done l → sort l ≡ true → Written now l

-- the width of an instruction that is long or not
abbrev pub width_if : Bool → Width
width_if true = width.Full
width_if false = width.Half

-- the halfwords of the instruction in a place in code, with another number in place of its own
pub record IsPlaceCode (l : Link) (n : ℕ) (c : Code) : Type 0 where
  pub instr : Instr
  pub was : decoded_at l.part.section.bytes l.reloc.offset 0 ≡ Ok instr
  pub stands : StandsFor c (renumbered n instr)
  pub width : width_of c ≡ width_if (is_long (half_at l.part.section.bytes l.reloc.offset))

abbrev pub HasPlaceCode : Link → ℕ → Option Code → Type 0
HasPlaceCode l n None = ⊥
HasPlaceCode l n (Some c) = IsPlaceCode l n c
