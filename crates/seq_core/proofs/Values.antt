-- What a change depends on: the numbers in the registers that are read, and the carry.
use Rattle.std.proofs.Common.{◌≡◌, ℕ, Bool, true, false, List, refl, ap, ◌∙◌}
use Rattle.std.specs.Prelude.{◌==◌, ◌||◌, ◌&&◌, not, if◌then◌else◌}
use Rattle.mark_word.specs.declared.numbers.Shift.{Shift}
use Rattle.mark_word.specs.declared.numbers.Shift.TheVariants.{Lsl, Lsr, Asr, Ror, Rrx}
use Rattle.mark_word.specs.declared.numbers.Shifted.{Shifted}
use Rattle.mark_word.specs.Formulas.{shifted}
use Rattle.thumb_instr.specs.declared.operations.AluOp.{AluOp}
use Rattle.thumb_instr.specs.declared.operations.AluOp.TheVariants.{And, Bic, Orr, Orn, Eor, Add, Adc, Sbc, Sub, Rsb}
use Rattle.thumb_instr.specs.declared.operands.Operand.{Operand}
use Rattle.thumb_instr.specs.declared.operands.Operand.TheVariants.{Imm, Reg}
use Rattle.thumb_instr.specs.Sets.{operand_reads_of, takes_carry_in, sums_with_carry}
use Rattle.thumb_table.specs.States.{Core}
use Rattle.thumb_table.specs.Values.{Given, computed}
use Rattle.thumb_table.specs.Effects.{value, operand, given_if, shift_given}
use Rattle.thumb_table.specs.Ordinary.{in_operand}
use Rattle.seq_core.proofs.Tests.{there, both_true}
use Rattle.seq_core.proofs.Lists.{Each}

-- the registers of a list have the same numbers
abbrev pub SameNumbers : List ℕ → Core → Core → Type 0
SameNumbers l x y = Each (λ r. value x r ≡ value y r) l

-- a shift by 0 gives no carry, so the one that came in is not seen
kept : (t : Bool) (n : ℕ) (s : Shifted) (b c : Bool) → given_if (not t || false) (if t && true then record { value = n; carry = b } else s) ≡ given_if (not t || false) (if t && true then record { value = n; carry = c } else s)
kept true n s b c = refl
kept false n s b c = refl

pub shift_same : (n : ℕ) (kind : Shift) (amount : ℕ) (b c : Bool) → (takes_carry_in kind ≡ true → b ≡ c) → shift_given n kind amount b ≡ shift_given n kind amount c
shift_same n Lsl amount b c e = kept (amount == 0) n (shifted n Lsl amount b) b c
shift_same n Lsr amount b c e = kept (amount == 0) n (shifted n Lsr amount b) b c
shift_same n Asr amount b c e = kept (amount == 0) n (shifted n Asr amount b) b c
shift_same n Ror amount b c e = kept (amount == 0) n (shifted n Ror amount b) b c
shift_same n Rrx amount b c e = ap (λ d. shift_given n Rrx amount d) (e refl)

pub computed_same : (op : AluOp) (n : ℕ) (o : Given) (b c : Bool) → (sums_with_carry op ≡ true → b ≡ c) → computed op n o b ≡ computed op n o c
computed_same And n o b c e = refl
computed_same Bic n o b c e = refl
computed_same Orr n o b c e = refl
computed_same Orn n o b c e = refl
computed_same Eor n o b c e = refl
computed_same Add n o b c e = refl
computed_same Adc n o b c e = ap (λ d. computed Adc n o d) (e refl)
computed_same Sbc n o b c e = ap (λ d. computed Sbc n o d) (e refl)
computed_same Sub n o b c e = refl
computed_same Rsb n o b c e = refl

-- an operand's value and carry
pub operand_same : (o : Operand) (x y : Core) → SameNumbers (in_operand o) x y → (operand_reads_of o 18 ≡ true → x.c ≡ y.c) → operand o x ≡ operand o y
operand_same (Imm i) x y v c = refl
operand_same (Reg m kind amount) x y v c =
    ap (λ n. shift_given n kind amount x.c) v.0
    ∙ shift_same (value y m) kind amount x.c y.c (λ e. c (there (18 == m) _ (both_true _ true e refl)))
