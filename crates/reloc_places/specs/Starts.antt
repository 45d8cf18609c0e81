-- Instruction starts, words of data and instructions in code sections.
use Rattle.std.specs.Prelude.{◌≡◌, ◌≤◌, ℕ, zero, suc, ◌+◌, ◌%◌, ◌==◌, ◌&&◌, ◌||◌, Bool, List, [], ◌∷◌, Option, Some, None, Err, if◌then◌else◌, slice_get}
use Rattle.std.specs.List.{list_any}
use Rattle.elf_model.specs.declared.objects.Section.{Section}
use Rattle.elf_model.specs.declared.objects.Symbol.{Symbol}
use Rattle.elf_model.specs.declared.ranges.RangeKind.TheVariants.{Code, Data}
use Rattle.elf_model.specs.Constants.{func}
use Rattle.elf_model.specs.Fields.{half_at}
use Rattle.elf_model.specs.Objects.{ObjectParts, even}
use Rattle.elf_model.specs.Ranges.{IsRange, IsStart, is_long, is_whole, length_at, stands_at}
use Rattle.thumb_instr.specs.declared.instructions.Instr.{Instr}
use Rattle.thumb_instr.specs.declared.instructions.Instr.TheVariants as instr
use Rattle.thumb_instr.specs.declared.refusals.BadInstr.TheVariants.{Unknown}
use Rattle.thumb_instr.specs.Blocks.{place_in_block, it_state, it_after}
use Rattle.thumb_instr.specs.Rows.{Answer, decode_given}

-- the bytes of a section
abbrev pub bytes_in : Option Section → List ℕ
bytes_in None = []
bytes_in (Some s) = s.bytes

abbrev pub bytes_of : ObjectParts → ℕ → List ℕ
bytes_of o j = bytes_in (slice_get o.sections j)

-- an instruction start of the code range of section j that ends at `end`
pub record IsCodeStart (o : ObjectParts) (j : ℕ) (bytes : List ℕ) (x end : ℕ) : Type 0 where
  pub start : ℕ
  pub range : IsRange o Code j start end
  pub is_start : IsStart bytes start end x

-- an instruction starts there
pub record HasStart (o : ObjectParts) (j x : ℕ) : Type 0 where
  pub end : ℕ
  pub start : IsCodeStart o j (bytes_of o j) x end

-- a word of a data range, at a multiple of 4
pub record IsDataWord (o : ObjectParts) (j w : ℕ) : Type 0 where
  pub start : ℕ
  pub end : ℕ
  pub range : IsRange o Data j start end
  pub aligned : w % 4 ≡ 0
  pub behind_start : start ≤ w
  pub before_end : w + 4 ≤ end

-- what the instruction at a start stands for in an IT state
abbrev pub second_half : List ℕ → ℕ → Option ℕ
second_half bytes x = if is_long (half_at bytes x) then Some (half_at bytes (x + 2)) else None

abbrev pub decoded_at : List ℕ → ℕ → ℕ → Answer
decoded_at bytes x it = decode_given (place_in_block it) (half_at bytes x) (second_half bytes x)

-- one that the end of its range cuts is none
abbrev pub instr_at : List ℕ → ℕ → ℕ → ℕ → Answer
instr_at bytes end x it = if is_whole bytes end x then decoded_at bytes x it else Err Unknown

-- where the instruction behind stands
abbrev pub behind : ObjectParts → ℕ → ℕ → ℕ
behind o j x = x + length_at (bytes_of o j) x

-- the offsets of so many instructions from one on
abbrev pub following : List ℕ → ℕ → ℕ → List ℕ
following bytes zero x = []
following bytes (suc count) x = x ∷ following bytes count (x + length_at bytes x)

-- a function begins there
abbrev pub is_function_at : List Symbol → ℕ → ℕ → Bool
is_function_at symbols j x = list_any (λ (s : Symbol). (s.kind == func) && stands_at j x s.home (even s.value)) symbols

-- NOP, and MOV r8, r8, by which compilers fill up code
abbrev pub is_nop : ℕ → Bool
is_nop h = (h == 0xBF00) || (h == 0x46C0)

-- the IT state behind an instruction: an IT begins a block, every other instruction moves the state on
abbrev pub it_behind : Instr → ℕ → ℕ
it_behind (instr.It i) it = it_state i.first i.mask
it_behind i it = it_after it
