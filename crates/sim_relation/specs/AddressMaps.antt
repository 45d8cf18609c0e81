-- Where the maps of hardened objects take addresses of the plain one, and what is the same up to that.
use Rattle.std.specs.Prelude.{◌≡◌, ◌<◌, ◌≤◌, ◌⊎◌, ℕ, ◌+◌, ◌%◌, ◌^◌, true, List, length, Option, Some, None, slice_get, get_or, Contains}
use Rattle.elf_model.specs.declared.objects.MapRow.{MapRow}
use Rattle.elf_model.specs.declared.objects.RowKind.{RowKind}
use Rattle.elf_model.specs.declared.objects.RowKind.TheVariants as row
use Rattle.mark_word.specs.Words.{Word, Cell, byte_of, bare}
use Rattle.mark_word.specs.declared.cells.Piece.{Piece}
use Rattle.mark_word.specs.declared.marks.Mark.{Mark}
use Rattle.mark_word.specs.declared.marks.Mark.TheVariants.{Plain, Entry, Return, Low}
use Rattle.thumb_table.specs.States.{State, read}
use Rattle.thumb_table.specs.Images.{even}
use Rattle.thumb_table.specs.Parts.{Image}
use Rattle.thumb_table.specs.declared.parts.Part.{Part}

-- a code section that holds an address
pub record Holds (image : Image) (p : Part) (a : ℕ) : Type 0 where
  pub there : Contains image.parts p
  pub code : p.code ≡ true
  pub from : p.start ≤ a
  pub below : a < p.start + p.size

-- A row of this kind takes an address to another one. A byte of the address's instruction or call is in a plain
-- code section, the row is of its object and section, and what it gives is in the same section of the hardened
-- object. Bit 0 is the address's own.
pub record RowTakes (plain hard : Image) (maps : List (List MapRow)) (kind : RowKind) (byte a b : ℕ) : Type 0 where
  pub old_part : Part
  pub holds : Holds plain old_part byte
  pub rows : List MapRow
  pub map : slice_get maps old_part.object ≡ Some rows
  pub row : MapRow
  pub listed : Contains rows row
  pub of_section : row.section ≡ old_part.ordinal
  pub of_kind : row.kind ≡ kind
  pub of_place : old_part.start + row.old ≡ even a
  pub new_part : Part
  pub there : Contains hard.parts new_part
  pub code : new_part.code ≡ true
  pub of_object : new_part.object ≡ old_part.object
  pub of_ordinal : new_part.ordinal ≡ old_part.ordinal
  pub gives : b ≡ even ((new_part.start + row.new) % 2 ^ 32) + a % 2

-- The end of the whole call goes to itself.
abbrev pub IsEnd : ℕ → ℕ → Type 0
IsEnd a b = (a ≡ 0x7FFFFFFF) × (b ≡ 0x7FFFFFFF)

-- An entry goes by the row of the instruction that it names.
abbrev pub TakesEntry : Image → Image → List (List MapRow) → ℕ → ℕ → Type 0
TakesEntry plain hard maps a b = IsEnd a b ⊎ RowTakes plain hard maps row.Start (even a) a b

-- A return address goes by the section of the byte before it, since a call may end its section.
abbrev pub TakesReturn : Image → Image → List (List MapRow) → ℕ → ℕ → Type 0
TakesReturn plain hard maps a b = IsEnd a b ⊎ ((byte : ℕ) × (byte + 1 ≡ even a) × RowTakes plain hard maps row.Return byte a b)

-- the bits that stand in the hardened run for a word with this mark and these bits
abbrev pub SameBits : Image → Image → List (List MapRow) → Mark → ℕ → ℕ → Type 0
SameBits plain hard maps Plain b h = b ≡ h
SameBits plain hard maps (Entry a) b h = TakesEntry plain hard maps a h
SameBits plain hard maps (Return a) b h = TakesReturn plain hard maps a h
SameBits plain hard maps (Low a) b h = (whole : ℕ) × TakesEntry plain hard maps a whole × (h ≡ whole % 2 ^ 16)

-- Two words are the same up to code addresses: only the plain one's mark counts.
abbrev pub SameWord : Image → Image → List (List MapRow) → Word → Word → Type 0
SameWord plain hard maps w h = SameBits plain hard maps w.mark w.bits h.bits

-- Two bytes: a piece of a marked word is the same byte of the mapped word.
abbrev pub SameByte : Image → Image → List (List MapRow) → Option Piece → ℕ → ℕ → Type 0
SameByte plain hard maps None b h = b ≡ h
SameByte plain hard maps (Some p) b h = (bits word : ℕ) × SameBits plain hard maps p.mark bits word × (h ≡ byte_of p.index word)

abbrev pub SameCell : Image → Image → List (List MapRow) → Cell → Cell → Type 0
SameCell plain hard maps c d = SameByte plain hard maps c.piece c.byte d.byte

-- sp and every byte of memory are the same up to code addresses.
pub record SameMemory (plain hard : Image) (maps : List (List MapRow)) (s t : State) : Type 0 where
  pub stack : SameWord plain hard maps (read s.core 13) (read t.core 13)
  pub base : t.core.memory.base ≡ s.core.memory.base
  pub size : length t.core.memory.cells ≡ length s.core.memory.cells
  pub cells : (k : ℕ) → k < length s.core.memory.cells → SameCell plain hard maps (get_or s.core.memory.cells k (bare 0)) (get_or t.core.memory.cells k (bare 0))

-- So are the results of a call, which are in so many registers from r0 on, and r4 to r11.
pub record SameResults (plain hard : Image) (maps : List (List MapRow)) (results : ℕ) (s t : State) : Type 0 where
  pub given : (r : ℕ) → r < results → SameWord plain hard maps (read s.core r) (read t.core r)
  pub kept : (r : ℕ) → 4 ≤ r → r < 12 → SameWord plain hard maps (read s.core r) (read t.core r)

pub record SameState (plain hard : Image) (maps : List (List MapRow)) (results : ℕ) (s t : State) : Type 0 where
  pub memory : SameMemory plain hard maps s t
  pub registers : SameResults plain hard maps results s t
