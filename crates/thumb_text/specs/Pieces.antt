-- Addresses, numbers and operands as a listing shows them.
use Rattle.std.specs.Prelude.{ℕ, ◌+◌, ◌-◌, ◌*◌, ◌/◌, ◌%◌, ◌^◌, ◌==◌, Bool, true, false, List, [], ◌∷◌, ◌++◌, map, filter, codes, ℤ, Option, Some, None, if◌then◌else◌}
use Rattle.std.specs.Int.{w32, cast_unsigned}
use Rattle.std.specs.Fmt.{decimal, digit_glyph}
use Rattle.std.specs.List.{flat_map, range_with_len}
use Rattle.mark_word.specs.declared.numbers.Shift.{Shift}
use Rattle.mark_word.specs.declared.numbers.Shift.TheVariants.{Lsl, Rrx}
use Rattle.mark_word.specs.declared.numbers.Shifted.{Shifted}
use Rattle.mark_word.specs.Formulas.{expand_imm}
use Rattle.thumb_instr.specs.declared.operands.Operand.{Operand}
use Rattle.thumb_instr.specs.declared.operands.Operand.TheVariants.{Imm, Reg}
use Rattle.thumb_instr.specs.declared.places.Place.{Place}
use Rattle.thumb_instr.specs.declared.places.Place.TheVariants.{Offset, Pre, Post, Index}
use Rattle.thumb_instr.specs.declared.places.PairIndex.{PairIndex}
use Rattle.thumb_instr.specs.declared.places.PairIndex.TheVariants.{Offset as PairOffset, Pre as PairPre, Post as PairPost}
use Rattle.thumb_instr.specs.Operands.{has}
use Rattle.thumb_text.specs.Names.{shift_name, register}

-- texts, each behind a separator
abbrev pub followed : List ℕ → List (List ℕ) → List ℕ
followed separator xs = flat_map (λ x. separator ++ x) xs

-- texts, with a separator between any two
abbrev pub separated : List ℕ → List (List ℕ) → List ℕ
separated separator [] = []
separated separator (x ∷ xs) = x ++ followed separator xs

-- a name, a space and the operands; a name alone where there are none
abbrev pub words : List ℕ → List (List ℕ) → List ℕ
words name [] = name
words name (x ∷ xs) = name ++ codes " " ++ separated (codes ", ") (x ∷ xs)

-- the eight hexadecimal digits of a word
unfoldable pub hex_word : ℕ → List ℕ
hex_word n = map (λ k. digit_glyph false (n / 16 ^ k % 16)) (7 ∷ 6 ∷ 5 ∷ 4 ∷ 3 ∷ 2 ∷ 1 ∷ 0 ∷ [])

abbrev pub numeral : ℕ → List ℕ
numeral n = codes "#" ++ decimal n

-- upwards or downwards, also where it is 0
abbrev pub directed : Bool → ℕ → List ℕ
directed true n = codes "#" ++ decimal n
directed false n = codes "#-" ++ decimal n

abbrev pub value_of : Option Shifted → ℕ
value_of (Some s) = s.value
value_of None = 0

-- the value of a constant of 12 bits, which each instruction's has
abbrev pub constant : ℕ → ℕ
constant i = value_of (expand_imm i false)

-- how a register is shifted, unless by nothing
abbrev pub shifting : Shift → ℕ → List (List ℕ)
shifting Rrx n = codes "rrx" ∷ []
shifting Lsl n = if n == 0 then [] else (codes "lsl #" ++ decimal n) ∷ []
shifting kind n = (shift_name kind ++ codes " #" ++ decimal n) ∷ []

abbrev pub operand : Operand → List (List ℕ)
operand (Imm i) = numeral (constant i) ∷ []
operand (Reg m kind amount) = register m ∷ shifting kind amount

abbrev pub memory : ℕ → Place → List ℕ
memory n (Offset up imm) = codes "[" ++ register n ++ codes ", " ++ directed up imm ++ codes "]"
memory n (Pre up imm) = codes "[" ++ register n ++ codes ", " ++ directed up imm ++ codes "]!"
memory n (Post up imm) = codes "[" ++ register n ++ codes "], " ++ directed up imm
memory n (Index m shift) = codes "[" ++ register n ++ codes ", " ++ register m ++ codes ", lsl #" ++ decimal shift ++ codes "]"

-- the place of a pair, which is one of an access
abbrev pub pair_place : PairIndex → Bool → ℕ → Place
pair_place PairOffset up imm = Offset up imm
pair_place PairPre up imm = Pre up imm
pair_place PairPost up imm = Post up imm

-- the names of the registers of a set below a number, rising
unfoldable pub names_of : ℕ → ℕ → List (List ℕ)
names_of list n = map register (filter (has list) (range_with_len 0 n))

abbrev pub has_any : List (List ℕ) → Bool
has_any [] = false
has_any (x ∷ xs) = true

abbrev pub last : Bool → List (List ℕ)
last true = codes "pc" ∷ []
last false = []

-- the registers that words are transferred of or to, pc last
abbrev pub transferred : ℕ → Bool → List ℕ
transferred list pc = codes "{" ++ separated (codes ",") (names_of list 15 ++ last pc) ++ codes "}"

-- a base that moves is marked
abbrev pub base : ℕ → Bool → List ℕ
base n true = register n ++ codes "!"
base n false = register n

-- an address of code, which a branch or a literal names
abbrev pub address : ℕ → List ℕ
address n = codes "0x" ++ hex_word n

-- where a branch at this address goes: its offset is counted from the address plus 4
abbrev pub branched : ℕ → ℤ → ℕ
branched at offset = (at + 4 + cast_unsigned w32 offset) % 2 ^ 32

-- a number above or below the address plus 4, rounded down to a multiple of 4
abbrev pub beside : ℕ → Bool → ℕ → ℕ
beside at true imm = ((at + 4) / 4 * 4 + imm) % 2 ^ 32
beside at false imm = ((at + 4) / 4 * 4 + 2 ^ 32 - imm) % 2 ^ 32
