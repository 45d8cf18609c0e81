-- Codes with the numbers that lead to goals.
use Rattle.std.specs.Prelude.{ℕ}
use Rattle.thumb_instr.specs.declared.instructions.Instr.{Instr}
use Rattle.thumb_encode.specs.declared.codes.Code.{Code}
use Rattle.thumb_encode.specs.declared.codes.Width.{Width}
use Rattle.thumb_encode.specs.Encoding.{IsCodeOf}
use Rattle.seq_core.specs.Builders.{HasRow}
use Rattle.branch_layout.specs.Widths.{IsLong}
use Rattle.branch_layout.specs.Goals.{aimed, Reaches}

-- What reaches a place has a code of its width in the long layout that leads there.
abbrev pub NumbersHaveCodes : Type 0
NumbersHaveCodes = (i : Instr) (w : Width) (at to : ℕ) → HasRow i → IsLong i w → Reaches at to i → (c : Code) × IsCodeOf (aimed at to i) w c
