-- The flags that an instruction may set. A shift by a register leaves the carry where it shifts by 0; all else sets
-- what it may.
use Rattle.std.specs.Prelude.{ℕ, ◌&&◌, ◌||◌, Bool}
use Rattle.thumb_instr.specs.declared.instructions.Instr.{Instr}
use Rattle.thumb_instr.specs.declared.instructions.Instr.TheVariants.{ShiftBy}
use Rattle.thumb_instr.specs.Sets.{sets_flags_of, sign_flags, is_carry_flag}

abbrev pub may_set_of : Instr → ℕ → Bool
may_set_of (ShiftBy i) k = i.s && (sign_flags k || is_carry_flag k)
may_set_of i k = sets_flags_of i k
