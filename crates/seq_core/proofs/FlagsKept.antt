-- No instruction both reads a flag and sets it.
use Rattle.std.proofs.Common.{lit≤, ℕ, ◌≡◌, ◌≤◌, ◌⊎◌, inl, inr, Bool, true, false, refl, sym, ◌∙◌, ap, arith, ◌==◌, ◌&&◌}
use Rattle.std.proofs.lemmas.Bool.Decides.{nat_tests}
use Rattle.std.proofs.lemmas.Bool.{cases_eq}
use Rattle.thumb_instr.specs.declared.operands.Operand.{Operand}
use Rattle.thumb_instr.specs.declared.operands.Operand.TheVariants.{Imm, Reg}
use Rattle.thumb_instr.specs.declared.instructions.Instr.{Instr}
use Rattle.thumb_instr.specs.declared.instructions.Instr.TheVariants as instr
use Rattle.thumb_instr.specs.Sets.{is_flag, is_carry_flag, operand_reads_of, reads_of, sets_flags_of}
use Rattle.thumb_instr.specs.MaySet.{may_set_of}
use Rattle.thumb_instr.specs.Formed.{OperandNamesRegisters, NamesRegisters}

-- a flag but C
abbrev IsOther : ℕ → Type 0
IsOther k = (15 ≤ k) × (is_carry_flag k ≡ false)

not_read : (k n : ℕ) → 15 ≤ k → n ≤ 14 → (k == n) ≡ false
not_read k n high low = grind (arith, nat_tests)

operand_other : (x : Operand) (k : ℕ) → OperandNamesRegisters x → IsOther k → operand_reads_of x k ≡ false
operand_other (Imm i) k names other = refl
operand_other (Reg m kind amount) k names other = let far : (k == m) ≡ false = not_read k m other.0 names in let none : is_carry_flag k ≡ false = other.1 in grind (arith)

set_is_flag : (i : Instr) (k : ℕ) → may_set_of i k ≡ true → is_flag k ≡ true
unfolding sets_flags_of
set_is_flag (instr.Alu i) k h = grind (arith)
set_is_flag (instr.Move i) k h = grind (arith)
set_is_flag (instr.Test i) k h = grind (arith)
set_is_flag (instr.ShiftBy i) k h = grind (arith)
set_is_flag (instr.Mul i) k h = grind (arith)
set_is_flag i k h = cc

flag_is_other : (k : ℕ) → is_flag k ≡ true → ((k ≡ 18) → ⊥) → IsOther k
flag_is_other k f apart = (grind (arith, nat_tests), grind (arith, nat_tests))

-- Of what sets flags, none reads another flag than C.
other_unread : (i : Instr) (k : ℕ) → NamesRegisters i → IsOther k → may_set_of i k ≡ true → reads_of i k ≡ false
unfolding reads_of sets_flags_of
other_unread (instr.Alu i) k names other h = let a : (k == i.n) ≡ false = not_read k i.n other.0 names.1 in let b : operand_reads_of i.x k ≡ false = operand_other i.x k names.2 other in let c : is_carry_flag k ≡ false = other.1 in grind (arith)
other_unread (instr.Move i) k names other h = operand_other i.x k names.1 other
other_unread (instr.Test i) k names other h = let a : (k == i.n) ≡ false = not_read k i.n other.0 names.0 in let b : operand_reads_of i.x k ≡ false = operand_other i.x k names.1 other in grind (arith)
other_unread (instr.ShiftBy i) k names other h = let a : (k == i.n) ≡ false = not_read k i.n other.0 names.1 in let b : (k == i.m) ≡ false = not_read k i.m other.0 names.2 in grind (arith)
other_unread (instr.Mul i) k names other h = let a : (k == i.n) ≡ false = not_read k i.n other.0 names.1 in let b : (k == i.m) ≡ false = not_read k i.m other.0 names.2 in grind (arith)
other_unread i k names other h = cc

-- C, which a shift by a register may set and does not read
carry_once : (i : Instr) → NamesRegisters i → (reads_of i 18 && sets_flags_of i 18) ≡ false → (reads_of i 18 && may_set_of i 18) ≡ false
unfolding reads_of
carry_once (instr.ShiftBy i) names h = let a : (18 == i.n) ≡ false = not_read 18 i.n (lit≤ tt) names.1 in let b : (18 == i.m) ≡ false = not_read 18 i.m (lit≤ tt) names.2 in grind (arith)
carry_once i names h = h

pub keeps_flags : (i : Instr) → NamesRegisters i → (reads_of i 18 && sets_flags_of i 18) ≡ false → (k : ℕ) → (reads_of i k && may_set_of i k) ≡ false
keeps_flags i names once k = by_number (cases_eq k 18) (may_set_of i k) refl
  where
    never : (r : Bool) → (r && false) ≡ false
    never true = refl
    never false = refl

    by_number : (k ≡ 18) ⊎ ((k ≡ 18) → ⊥) → (s : Bool) → may_set_of i k ≡ s → (reads_of i k && s) ≡ false
    by_number q false e = never (reads_of i k)
    by_number (inl same) true e = let z : (reads_of i 18 && may_set_of i 18) ≡ false = carry_once i names once in let r : reads_of i k ≡ reads_of i 18 = ap (reads_of i) same in let t : may_set_of i 18 ≡ true = ap (may_set_of i) (sym same) ∙ e in grind (arith)
    by_number (inr apart) true e = ap (λ (b : Bool). b && true) (other_unread i k names (flag_is_other k (set_is_flag i k e) apart) e)
