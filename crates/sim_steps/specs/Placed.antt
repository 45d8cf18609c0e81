-- Where in IT blocks instructions may stand.
use Rattle.std.specs.Prelude.{◌≡◌, ℕ, true, Ok}
use Rattle.thumb_instr.specs.declared.instructions.Instr.{Instr}
use Rattle.thumb_instr.specs.Blocks.{it_after, place_in_block, block_condition}
use Rattle.thumb_instr.specs.Rows.{decode}
use Rattle.seq_core.specs.Reading.{may_jump}
use Rattle.sim_charts.specs.Charts.{may_fail, it_behind}

-- What jumps is the last of its block, if it is in one; and what is under a condition starts none.
abbrev pub JumpsStandLast : Type 0
JumpsStandLast = (it first second : ℕ) (i : Instr) → decode (place_in_block it) first second ≡ Ok i → may_jump i ≡ true → it_behind i it ≡ 0

abbrev pub BlocksStandApart : Type 0
BlocksStandApart = (it first second : ℕ) (i : Instr) → decode (place_in_block it) first second ≡ Ok i → may_fail (block_condition it) ≡ true → it_behind i it ≡ it_after it
