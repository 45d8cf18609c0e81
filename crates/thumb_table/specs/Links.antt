-- What linking makes of a relocation (ELF for the Arm Architecture, relocation codes): a number, and what stands at its place.
-- P is the place's address, S the symbol's without bit 0 of a function's, T that bit, and A the number in the object's own bytes.
use Rattle.std.specs.Prelude.{◌≡◌, ℕ, ◌+◌, ◌-◌, ◌*◌, ◌/◌, ◌%◌, ◌^◌, ◌==◌, nat_lt, nat_le, ◌&&◌, ◌||◌, not, Bool, true, false, List, Option, Some, None, Ok, take, drop, if◌then◌else◌, slice_get}
use Rattle.elf_model.specs.declared.objects.Symbol.{Symbol}
use Rattle.elf_model.specs.declared.objects.Reloc.{Reloc}
use Rattle.elf_model.specs.declared.objects.RelocKind.{RelocKind}
use Rattle.elf_model.specs.declared.objects.RelocKind.TheVariants.{ThmCall, ThmJump24, ThmJump19, ThmJump11, ThmJump8, MovwAbs, MovtAbs}
use Rattle.elf_model.specs.Fields.{bytes_at, word}
use Rattle.elf_model.specs.Objects.{ObjectParts, is_code, even, place_width}
use Rattle.elf_model.specs.Ranges.{length_at}
use Rattle.mark_word.specs.declared.marks.Mark.{Mark}
use Rattle.mark_word.specs.declared.marks.Mark.TheVariants.{Plain, Entry, Low}
use Rattle.mark_word.specs.Words.{Cell}
use Rattle.mark_word.specs.Marks.{pieces}
use Rattle.thumb_instr.specs.declared.instructions.Instr.{Instr}
use Rattle.thumb_instr.specs.Numbers.{renumbered}
use Rattle.thumb_table.specs.declared.placements.Placement.{Placement}
use Rattle.reloc_places.specs.Starts.{decoded_at}
use Rattle.reloc_places.specs.Relocations.{is_word, is_jump, addend}
use Rattle.thumb_table.specs.Layouts.{Placed, all_placed, part_of, home_part}
use Rattle.thumb_table.specs.Names.{Defined, meant, is_in_code, is_function, stands}

-- A relocation of an object: the part that its section is, its symbol, and what that stands for.
pub record Link : Type 0 where
  pub file : ℕ
  pub object : ObjectParts
  pub number : ℕ
  pub reloc : Reloc
  pub part : Placed
  pub symbol : Symbol
  pub meant : Defined

pub record IsLink (objects : List ObjectParts) (at : Placement) (l : Link) : Type 0 where
  pub object : slice_get objects l.file ≡ Some l.object
  pub reloc : slice_get l.object.relocs l.number ≡ Some l.reloc
  pub part : part_of (all_placed objects at) l.file l.reloc.section ≡ Some l.part
  pub symbol : slice_get l.object.symbols l.reloc.symbol ≡ Some l.symbol
  pub meant : meant objects l.file l.reloc.symbol l.symbol ≡ Some l.meant

-- its symbol is in code
abbrev pub leads_to_code : List Placed → Link → Bool
leads_to_code parts l = is_in_code parts l.meant.object l.meant.symbol.home

-- P; A and S + A, modulo 2^32
abbrev pub place_of : Link → ℕ
place_of l = l.part.start + l.reloc.offset

abbrev pub addend_of : Link → ℕ
addend_of l = addend l.part.section.bytes l.reloc

abbrev pub sum_of : List Placed → Link → ℕ
sum_of parts l = (stands parts l.meant + addend_of l) % 2 ^ 32

-- (S + A) | T
abbrev pub full : List Placed → Link → ℕ
full parts l = if is_function parts l.meant then even (sum_of parts l) + 1 else sum_of parts l

-- (S + A) - P, and the address that a branch with this offset leads to
abbrev pub offset_of : List Placed → Link → ℕ
offset_of parts l = (sum_of parts l + 2 ^ 32 - place_of l) % 2 ^ 32

abbrev pub target_of : List Placed → Link → ℕ
target_of parts l = (sum_of parts l + 4) % 2 ^ 32

-- The number that comes to the place: a branch's offset, a half of the full value (of which the upper one has no bit 0), or
-- the full value.
abbrev pub value_for : RelocKind → ℕ → ℕ → ℕ
value_for ThmCall offset full = offset
value_for ThmJump24 offset full = offset
value_for ThmJump19 offset full = offset
value_for ThmJump11 offset full = offset
value_for ThmJump8 offset full = offset
value_for MovwAbs offset full = full % 2 ^ 16
value_for MovtAbs offset full = full / 2 ^ 16
value_for _ offset full = full

abbrev pub value_of : List Placed → Link → ℕ
value_of parts l = value_for l.reloc.kind (offset_of parts l) (full parts l)

-- Addresses of code are marked: of a word and of MOVT as an entry, of MOVW as the low half of one. Branches have no mark.
abbrev pub mark_for : RelocKind → ℕ → Mark
mark_for MovwAbs full = Low full
mark_for _ full = Entry full

abbrev pub mark_of : List Placed → Link → Mark
mark_of parts l = if leads_to_code parts l && not (is_jump l.reloc.kind) then mark_for l.reloc.kind (full parts l) else Plain

-- What stands at x of the old bytes stands at y of the new ones, in as many bytes, with the number n in place of its own.
pub record Renumbers (old : List ℕ) (x n : ℕ) (new : List ℕ) (y : ℕ) : Type 0 where
  pub instr : Instr
  pub was : decoded_at old x 0 ≡ Ok instr
  pub becomes : decoded_at new y 0 ≡ Ok (renumbered n instr)
  pub width : length_at new y ≡ length_at old x

-- At its place in code a word is the full value, and an instruction has the number.
pub record IsWritten (parts : List Placed) (bytes : List ℕ) (base : ℕ) (l : Link) : Type 0 where
  pub of_word : is_word l.reloc.kind ≡ true → bytes_at bytes (place_of l - base) 4 ≡ word (full parts l)
  pub of_instr : is_word l.reloc.kind ≡ false → Renumbers l.part.section.bytes l.reloc.offset (value_of parts l) bytes (place_of l - base)

-- At its place in data stand the four cells of the full value, with its mark.
abbrev pub AreWritten : List Placed → List Cell → ℕ → Link → Type 0
AreWritten parts cells base l = take 4 (drop (place_of l - base) cells) ≡ pieces (record { bits = full parts l; mark = mark_of parts l })

-- its place has the byte at an address
abbrev pub covers : ℕ → Link → Bool
covers a l = nat_le (place_of l) a && nat_lt a (place_of l + place_width l.reloc.kind)

-- no relocation has the byte at an address
abbrev pub IsFree : List ObjectParts → Placement → ℕ → Type 0
IsFree objects at a = (l : Link) → IsLink objects at l → covers a l ≡ false

-- Its symbol stands for another one than itself.
abbrev pub is_other : Link → Bool
is_other l = not ((l.meant.object == l.file) && (l.meant.index == l.reloc.symbol))

-- A relocation whose symbol stands for another one, and one of the two is in code, leads to that symbol itself.
abbrev pub is_straight : List Placed → Link → Bool
is_straight parts l =
    not (is_other l && (leads_to_code parts l || is_in_code parts l.file l.symbol.home))
    || (addend_of l == (if is_jump l.reloc.kind then 2 ^ 32 - 4 else 0))

-- how far a branch or call leads from its offset's zero, to either side
abbrev pub reach : RelocKind → ℕ
reach ThmCall = 2 ^ 24
reach ThmJump24 = 2 ^ 24
reach ThmJump19 = 2 ^ 20
reach ThmJump11 = 2 ^ 11
reach ThmJump8 = 2 ^ 8
reach _ = 0

-- an even offset, modulo 2^32, from -far to far
abbrev pub is_reached : ℕ → ℕ → Bool
is_reached far n = (n % 2 == 0) && nat_lt ((n + far) % 2 ^ 32) (2 * far)

-- an address lies in a section of code
abbrev pub has_address : ℕ → Option Placed → Bool
has_address a None = false
has_address a (Some p) = is_code p.section && nat_le p.start a && nat_lt a (p.start + p.section.size)

-- A branch's offset can be written, and it leads to an even address in its symbol's section of code.
abbrev pub can_branch : List Placed → Link → Bool
can_branch parts l =
    is_reached (reach l.reloc.kind) (offset_of parts l)
    && has_address (target_of parts l) (home_part parts l.meant.object l.meant.symbol.home)
    && (target_of parts l % 2 == 0)

-- An address in code that another symbol gives is one of Thumb code.
abbrev pub is_thumb_address : List Placed → Link → Bool
is_thumb_address parts l = not (is_other l && leads_to_code parts l) || (full parts l % 2 == 1)

abbrev pub is_in_range : List Placed → Link → Bool
is_in_range parts l = is_straight parts l && (if is_jump l.reloc.kind then can_branch parts l else is_thumb_address parts l)
