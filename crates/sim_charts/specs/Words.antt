-- Words and bytes that are the same in both runs up to addresses of code, over any two relations of addresses.
use Rattle.std.specs.Prelude.{◌≡◌, ◌<◌, ℕ, ◌%◌, ◌^◌, length, Option, Some, None, get_or, IsTrue}
use Rattle.mark_word.specs.Words.{Word, Cell, byte_of, bare, is_word, is_cell}
use Rattle.mark_word.specs.declared.cells.Piece.{Piece}
use Rattle.mark_word.specs.declared.marks.Mark.{Mark}
use Rattle.mark_word.specs.declared.marks.Mark.TheVariants.{Plain, Entry, Return, Low}
use Rattle.thumb_table.specs.Parts.{Memory}
use Rattle.thumb_table.specs.States.{Core, read}

-- what stands in the hardened run for an entry and for a return address of the plain one, with bit 0 as words have it
pub record Taking : Type 1 where
  pub entry : ℕ → ℕ → Type 0
  pub back : ℕ → ℕ → Type 0

-- the bits that stand in the hardened run for a word with this mark and these bits
abbrev pub SameBits : Taking → Mark → ℕ → ℕ → Type 0
SameBits t Plain b h = b ≡ h
SameBits t (Entry a) b h = t.entry a h
SameBits t (Return a) b h = t.back a h
SameBits t (Low a) b h = (whole : ℕ) × t.entry a whole × (h ≡ whole % 2 ^ 16)

-- only the plain word's mark counts
abbrev pub SameWord : Taking → Word → Word → Type 0
SameWord t w v = SameBits t w.mark w.bits v.bits

abbrev pub SameByte : Taking → Option Piece → ℕ → ℕ → Type 0
SameByte t None b h = b ≡ h
SameByte t (Some p) b h = (bits word : ℕ) × SameBits t p.mark bits word × (h ≡ byte_of p.index word)

abbrev pub SameCell : Taking → Cell → Cell → Type 0
SameCell t c d = SameByte t c.piece c.byte d.byte

pub record SameMemory (t : Taking) (m n : Memory) : Type 0 where
  pub base : n.base ≡ m.base
  pub size : length n.cells ≡ length m.cells
  pub cells : (k : ℕ) → k < length m.cells → SameCell t (get_or m.cells k (bare 0)) (get_or n.cells k (bare 0))

-- The marks of registers and memory are those of their bits.
pub record IsMarked (x : Core) : Type 0 where
  pub words : (r : ℕ) → IsTrue (is_word (read x r))
  pub cells : (k : ℕ) → IsTrue (is_cell (get_or x.memory.cells k (bare 0)))

-- an address of code with its bit 0, as words have it: odd, and of 31 bits
pub record IsCodeWord (n : ℕ) : Type 0 where
  pub odd : n % 2 ≡ 1
  pub below : n < 2 ^ 31

-- What stands for an address is determined, and both are addresses of code.
pub record IsTaking (t : Taking) : Type 0 where
  pub entry_once : (a b c : ℕ) → t.entry a b → t.entry a c → b ≡ c
  pub back_once : (a b c : ℕ) → t.back a b → t.back a c → b ≡ c
  pub entry_old : (a b : ℕ) → t.entry a b → IsCodeWord a
  pub entry_new : (a b : ℕ) → t.entry a b → IsCodeWord b
  pub back_old : (a b : ℕ) → t.back a b → IsCodeWord a
  pub back_new : (a b : ℕ) → t.back a b → IsCodeWord b
