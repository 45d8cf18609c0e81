-- Which codes stand for an instruction, and which row of the table each of them is of.
use Rattle.std.specs.Prelude.{◌≡◌, ℕ, ◌+◌, ◌*◌, ◌^◌, ◌<◌, true, false, List, [], ◌∷◌, Ok, if◌then◌else◌}
use Rattle.thumb_instr.specs.declared.instructions.Instr.{Instr}
use Rattle.thumb_instr.specs.declared.refusals.ItPlace.TheVariants.{Outside}
use Rattle.thumb_instr.specs.Patterns.{Row, fits}
use Rattle.thumb_instr.specs.HalfRows.{half_rows}
use Rattle.thumb_instr.specs.FullRows.{full_rows}
use Rattle.thumb_instr.specs.Rows.{decode, is_wide}
use Rattle.thumb_encode.specs.declared.codes.Width.{Width}
use Rattle.thumb_encode.specs.declared.codes.Width.TheVariants as width
use Rattle.thumb_encode.specs.declared.codes.Code.{Code}
use Rattle.thumb_encode.specs.declared.codes.Code.TheVariants as code

-- the number of the row that answers for h: of the first that fits, from 0
unfoldable pub row_of : ℕ → List Row → ℕ → ℕ
row_of size [] h = 0
row_of size (r ∷ rows) h = if fits r.pattern size h then 0 else 1 + row_of size rows h

abbrev pub width_of : Code → Width
width_of (code.Half h) = width.Half
width_of (code.Full first second) = width.Full

-- its row, among those of its width
abbrev pub row_number : Code → ℕ
row_number (code.Half h) = row_of 16 (half_rows Outside) h
row_number (code.Full first second) = row_of 32 (full_rows Outside) (first * 2 ^ 16 + second)

-- Outside of an IT block the code's halfwords stand for the instruction. The first of two is wide, one alone is not.
abbrev pub StandsFor : Code → Instr → Type 0
StandsFor (code.Half h) i = (h < 2 ^ 16) × (is_wide h ≡ false) × (decode Outside h 0 ≡ Ok i)
StandsFor (code.Full first second) i = (first < 2 ^ 16) × (second < 2 ^ 16) × (is_wide first ≡ true) × (decode Outside first second ≡ Ok i)

-- a code of that width for the instruction
abbrev pub IsCodeOf : Instr → Width → Code → Type 0
IsCodeOf i w c = (width_of c ≡ w) × StandsFor c i
