-- The constant of a multiple of 4.
use Rattle.std.proofs.Common.{◌≡◌, ℕ, ◌%◌, ◌≤◌, Bool, Some, arith}
use Rattle.std.proofs.lemmas.Grind.{common_steps}
use Rattle.std.specs.Option.{option_map}
use Rattle.mark_word.specs.Formulas.{expand_imm}
use Rattle.thumb_instr.specs.Meanings.{constant_of}

pub constant_is_value : (k : ℕ) (carry : Bool) → k ≤ 1020 → k % 4 ≡ 0 → option_map (λ x. x.value) (expand_imm (constant_of k) carry) ≡ Some k
constant_is_value k carry h m = grind (arith, common_steps)
