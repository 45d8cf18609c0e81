-- The listing of an object: for each code section its name, and a line for each instruction or datum.
use Rattle.std.specs.Prelude.{◌≡◌, ◌<◌, ◌≤◌, ℕ, ◌+◌, ◌/◌, ◌%◌, ◌^◌, true, false, List, [], ◌∷◌, ◌++◌, length, map, codes, Ok, Err, if◌then◌else◌}
use Rattle.std.specs.Fmt.{decimal, digit_glyph}
use Rattle.std.specs.List.{flat_map}
use Rattle.elf_model.specs.declared.objects.Section.{Section}
use Rattle.elf_model.specs.declared.ranges.RangeKind.TheVariants.{Code}
use Rattle.elf_model.specs.Fields.{byte_at, half_at, word_at}
use Rattle.elf_model.specs.Objects.{ObjectParts, is_code}
use Rattle.elf_model.specs.Ranges.{IsRange, is_long, length_at}
use Rattle.thumb_instr.specs.declared.instructions.Instr.{Instr}
use Rattle.thumb_instr.specs.declared.refusals.BadInstr.{BadInstr}
use Rattle.thumb_instr.specs.Blocks.{it_after}
pub use Rattle.reloc_places.specs.Starts.{IsCodeStart, second_half, decoded_at}
pub use Rattle.reloc_places.specs.Starts.{it_behind}
use Rattle.thumb_text.specs.Pieces.{hex_word}
use Rattle.thumb_text.specs.Listing.{line_of}

-- the hexadecimal digits of a number at these places, of which the last is place 0
unfoldable pub hex_digits : List ℕ → ℕ → List ℕ
hex_digits places n = map (λ k. digit_glyph false (n / 16 ^ k % 16)) places

-- A line begins with its offset in eight digits and two spaces.
abbrev pub line_at : ℕ → List ℕ → List ℕ
line_at x text = hex_word x ++ codes "  " ++ text

-- the lines of a byte, of a halfword and of a word
abbrev pub byte_line : List ℕ → ℕ → List ℕ
byte_line bytes x = line_at x (codes ".byte 0x" ++ hex_digits (1 ∷ 0 ∷ []) (byte_at bytes x))

abbrev pub short_line : List ℕ → ℕ → List ℕ
short_line bytes x = line_at x (codes ".short 0x" ++ hex_digits (3 ∷ 2 ∷ 1 ∷ 0 ∷ []) (half_at bytes x))

abbrev pub word_line : List ℕ → ℕ → List ℕ
word_line bytes x = line_at x (codes ".word 0x" ++ hex_word (word_at bytes x))

-- a line for each halfword of an instruction
abbrev pub short_lines : List ℕ → ℕ → List (List ℕ)
short_lines bytes x = if is_long (half_at bytes x) then short_line bytes x ∷ short_line bytes (x + 2) ∷ [] else short_line bytes x ∷ []

-- a byte of a code range
pub record IsInCode (o : ObjectParts) (j x : ℕ) : Type 0 where
  pub start : ℕ
  pub end : ℕ
  pub range : IsRange o Code j start end
  pub not_before : start ≤ x
  pub not_behind : x < end

-- four bytes at a multiple of 4, of which none is code
pub record IsDataWord (o : ObjectParts) (j : ℕ) (bytes : List ℕ) (x : ℕ) : Type 0 where
  pub aligned : x % 4 ≡ 0
  pub inside : x + 4 ≤ length bytes
  pub no_code : (k : ℕ) → k < 4 → ¬ IsInCode o j (x + k)

-- The lines of a section from an offset on, which an IT state stands before.
pub data Listed (o : ObjectParts) (j : ℕ) (bytes : List ℕ) : ℕ → ℕ → List (List ℕ) → Type 0 where
  ended : (it : ℕ) → Listed o j bytes (length bytes) it []
  -- an instruction
  instruction : (x it end : ℕ) (i : Instr) (rest : List (List ℕ)) → IsCodeStart o j bytes x end → x + length_at bytes x ≤ end → decoded_at bytes x it ≡ Ok i →
      Listed o j bytes (x + length_at bytes x) (it_behind i it) rest → Listed o j bytes x it (line_of i x ∷ rest)
  -- a whole instruction that is refused
  refused : (x it end : ℕ) (bad : BadInstr) (rest : List (List ℕ)) → IsCodeStart o j bytes x end → x + length_at bytes x ≤ end → decoded_at bytes x it ≡ Err bad →
      Listed o j bytes (x + length_at bytes x) (it_after it) rest → Listed o j bytes x it (short_lines bytes x ++ rest)
  -- an instruction of four bytes that the end of its range cuts, behind its first halfword or a byte later
  cut : (x it end : ℕ) (rest : List (List ℕ)) → IsCodeStart o j bytes x end → is_long (half_at bytes x) ≡ true → x + 2 ≡ end →
      Listed o j bytes end (it_after it) rest → Listed o j bytes x it (short_line bytes x ∷ rest)
  cut_later : (x it end : ℕ) (rest : List (List ℕ)) → IsCodeStart o j bytes x end → is_long (half_at bytes x) ≡ true → x + 3 ≡ end →
      Listed o j bytes end (it_after it) rest → Listed o j bytes x it (short_line bytes x ∷ byte_line bytes (x + 2) ∷ rest)
  -- a single byte left of a code range
  byte_left : (x it end : ℕ) (rest : List (List ℕ)) → IsCodeStart o j bytes x end → x + 1 ≡ end →
      Listed o j bytes end it rest → Listed o j bytes x it (byte_line bytes x ∷ rest)
  -- All else is data: words where they can be, and bytes. Behind it no IT block goes on.
  word : (x it : ℕ) (rest : List (List ℕ)) → IsDataWord o j bytes x → Listed o j bytes (x + 4) 0 rest → Listed o j bytes x it (word_line bytes x ∷ rest)
  byte : (x it : ℕ) (rest : List (List ℕ)) → x < length bytes → ¬ IsInCode o j x → ¬ IsDataWord o j bytes x →
      Listed o j bytes (x + 1) 0 rest → Listed o j bytes x it (byte_line bytes x ∷ rest)

-- the line before a section's lines
abbrev pub heading : ℕ → List ℕ → List ℕ
heading j name = codes "section " ++ decimal j ++ codes " " ++ name

-- The lines of the code sections among these, of which the first has this index.
pub data AreListed (o : ObjectParts) : ℕ → List Section → List (List ℕ) → Type 0 where
  none : (j : ℕ) → AreListed o j [] []
  code : (j : ℕ) (s : Section) (sections : List Section) (lines rest : List (List ℕ)) → is_code s ≡ true → Listed o j s.bytes 0 0 lines →
      AreListed o (j + 1) sections rest → AreListed o j (s ∷ sections) (heading j s.name ∷ lines ++ rest)
  other : (j : ℕ) (s : Section) (sections : List Section) (rest : List (List ℕ)) → is_code s ≡ false → AreListed o (j + 1) sections rest → AreListed o j (s ∷ sections) rest

-- each line with its line feed
abbrev pub text_of_lines : List (List ℕ) → List ℕ
text_of_lines lines = flat_map (λ line. line ++ 10 ∷ []) lines

-- the text that lists an object
pub record IsListing (o : ObjectParts) (text : List ℕ) : Type 0 where
  pub lines : List (List ℕ)
  pub listed : AreListed o 0 o.sections lines
  pub text_is : text ≡ text_of_lines lines
