-- The constants by which sequences move a base.
use Rattle.std.specs.Prelude.{ℕ, ◌≡◌, ◌%◌, ◌==◌, ◌&&◌, ◌||◌, nat_lt, nat_le, Bool, true}
use Rattle.thumb_instr.specs.Operands.{has_constant}
use Rattle.thumb_instr.specs.Meanings.{constant_of}
use Rattle.seq_core.specs.Bases.{IsConstant}

-- A base moves by a byte, or by a multiple of 4 up to 1,020.
abbrev pub is_move : ℕ → Bool
is_move n = nat_lt n 256 || (nat_le n 1020 && (n % 4 == 0))

-- Each of these numbers is a constant of ADD and SUB, and this is its code.
abbrev pub MovesAreConstants : Type 0
MovesAreConstants = (n : ℕ) → is_move n ≡ true → IsConstant (constant_of n) n × (has_constant (constant_of n) ≡ true)
