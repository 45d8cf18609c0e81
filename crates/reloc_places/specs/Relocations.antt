-- Where relocations may stand, and the numbers that they make (ELF for the Arm Architecture, relocation codes).
use Rattle.std.specs.Prelude.{◌≡◌, ◌<◌, ◌≤◌, ℕ, ◌+◌, ◌-◌, ◌%◌, ◌^◌, ◌==◌, ◌&&◌, not, Bool, true, false, List, Option, Some, None, Ok, if◌then◌else◌, slice_get, position}
use Rattle.std.specs.Int.{w32, cast_unsigned}
use Rattle.elf_model.specs.declared.objects.Section.{Section}
use Rattle.elf_model.specs.declared.objects.Symbol.{Symbol}
use Rattle.elf_model.specs.declared.objects.Reloc.{Reloc}
use Rattle.elf_model.specs.declared.objects.RelocKind.{RelocKind}
use Rattle.elf_model.specs.declared.objects.RelocKind.TheVariants.{Abs32, Target1, ThmCall, ThmJump24, MovwAbs, MovtAbs, ThmJump19, ThmJump11, ThmJump8, Other}
use Rattle.elf_model.specs.declared.objects.Home.{Home}
use Rattle.elf_model.specs.declared.objects.Home.TheVariants as home
use Rattle.elf_model.specs.Constants.{func}
use Rattle.elf_model.specs.Fields.{half_at, word_at}
use Rattle.elf_model.specs.Objects.{ObjectParts, is_data, even, place_width}
use Rattle.elf_model.specs.Ranges.{is_long}
use Rattle.thumb_instr.specs.declared.conditions.Cond.{Cond}
use Rattle.thumb_instr.specs.declared.conditions.Cond.TheVariants.{Al}
use Rattle.thumb_instr.specs.declared.instructions.Instr.{Instr}
use Rattle.thumb_instr.specs.declared.instructions.Instr.TheVariants as instr
use Rattle.thumb_instr.specs.Meanings.{signed}
use Rattle.thumb_instr.specs.Rows.{Answer}
use Rattle.code_ranges.specs.CodeRanges.{holds_code}
use Rattle.reloc_places.specs.Starts.{bytes_of, IsCodeStart, IsDataWord, decoded_at, instr_at}

-- an instruction without condition always executes, one with a condition may not
abbrev pub may_fail : Cond → Bool
may_fail Al = false
may_fail _ = true

-- kinds of relocations: of a word, of a branch or call, and of one half of an address
abbrev pub is_word : RelocKind → Bool
is_word Abs32 = true
is_word Target1 = true
is_word _ = false

abbrev pub is_jump : RelocKind → Bool
is_jump ThmCall = true
is_jump ThmJump24 = true
is_jump ThmJump19 = true
is_jump ThmJump11 = true
is_jump ThmJump8 = true
is_jump _ = false

abbrev pub is_half : RelocKind → Bool
is_half MovwAbs = true
is_half MovtAbs = true
is_half _ = false

-- the instruction that a kind of relocation is of: BL; B without and with a condition, in four bytes and in two; MOVW; MOVT
abbrev pub is_bl : Instr → Bool
is_bl (instr.Call i) = true
is_bl _ = false

abbrev pub is_b : Bool → Instr → Bool
is_b conditional (instr.Branch i) = if conditional then may_fail i.cond else not (may_fail i.cond)
is_b conditional _ = false

abbrev pub is_mov : Bool → Instr → Bool
is_mov top (instr.Half i) = if top then i.top else not i.top
is_mov top _ = false

abbrev pub fits_kind : RelocKind → Bool → Instr → Bool
fits_kind Abs32 long i = false
fits_kind Target1 long i = false
fits_kind ThmCall long i = is_bl i
fits_kind ThmJump24 long i = long && is_b false i
fits_kind MovwAbs long i = is_mov false i
fits_kind MovtAbs long i = is_mov true i
fits_kind ThmJump19 long i = long && is_b true i
fits_kind ThmJump11 long i = not long && is_b false i
fits_kind ThmJump8 long i = not long && is_b true i
fits_kind (Other n) long i = false

-- A place that a relocation of its kind may have: any four bytes of data, a word of data among code, or an
-- instruction of the kind, taken outside of an IT block.
pub data IsPlace (o : ObjectParts) (r : Reloc) : Type 0 where
  in_data : (s : Section) → slice_get o.sections r.section ≡ Some s → is_data s ≡ true → is_word r.kind ≡ true → IsPlace o r
  in_code : is_word r.kind ≡ true → IsDataWord o r.section r.offset → IsPlace o r
  on_instr : (end : ℕ) (i : Instr) → IsCodeStart o r.section (bytes_of o r.section) r.offset end → instr_at (bytes_of o r.section) end r.offset 0 ≡ Ok i
      → fits_kind r.kind (is_long (half_at (bytes_of o r.section) r.offset)) i ≡ true → IsPlace o r

-- the number in a relocation's place, modulo 2^32
abbrev pub number_in : Answer → ℕ
number_in (Ok (instr.Branch i)) = cast_unsigned w32 i.offset
number_in (Ok (instr.Call i)) = cast_unsigned w32 i.offset
number_in (Ok (instr.Half i)) = cast_unsigned w32 (signed 16 i.imm)
number_in _ = 0

abbrev pub addend : List ℕ → Reloc → ℕ
addend bytes r = if is_word r.kind then word_at bytes r.offset else number_in (decoded_at bytes r.offset 0)

-- a branch or call to a symbol that the object doesn't define
abbrev pub is_undefined : Option Symbol → Bool
is_undefined None = false
is_undefined (Some s) = is_open s.home
  where
    is_open : Home → Bool
    is_open home.Undefined = true
    is_open _ = false

abbrev pub is_open_jump : ObjectParts → Reloc → Bool
is_open_jump o r = is_jump r.kind && is_undefined (slice_get o.symbols r.symbol)

-- The relocation k is right: it has a place, shares no byte with one before it, and a branch or call to an undefined
-- symbol leads to the symbol itself.
pub record IsRight (o : ObjectParts) (k : ℕ) (r : Reloc) : Type 0 where
  pub is_there : slice_get o.relocs k ≡ Some r
  pub place : IsPlace o r
  pub alone : (i : ℕ) (q : Reloc) → i < k → slice_get o.relocs i ≡ Some q → q.section ≡ r.section → q.offset + place_width q.kind ≤ r.offset
  pub straight : is_open_jump o r ≡ true → addend (bytes_of o r.section) r ≡ 2 ^ 32 - 4

-- the relocation at a place
abbrev pub reloc_at : ObjectParts → ℕ → ℕ → Option ℕ
reloc_at o j x = position (λ (r : Reloc). (r.section == j) && (r.offset == x)) o.relocs

-- a symbol that is defined in code
abbrev pub is_in_code : ObjectParts → Home → Bool
is_in_code o home.Undefined = false
is_in_code o home.Absolute = false
is_in_code o (home.Section j) = holds_code (slice_get o.sections j)

-- functions of Thumb code have bit 0 of their value set, which is no part of their place
abbrev pub is_thumb : ObjectParts → Symbol → Bool
is_thumb o s = (s.kind == func) && is_in_code o s.home

abbrev pub place_of : ObjectParts → Symbol → ℕ
place_of o s = if is_thumb o s then even s.value else s.value

-- what a relocation makes of its symbol: an address, bit 0 of a function's set, or where a branch leads
abbrev pub value_of : ObjectParts → Reloc → Symbol → ℕ
value_of o r s =
    let sum = (place_of o s + addend (bytes_of o r.section) r) % 2 ^ 32 in
    if is_thumb o s then even sum + 1 else sum

abbrev pub target_of : ObjectParts → Reloc → Symbol → ℕ
target_of o r s = (place_of o s + addend (bytes_of o r.section) r + 4) % 2 ^ 32
