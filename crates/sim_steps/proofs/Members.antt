-- Members by their numbers: registers are written below 15, flags are set above.
use Rattle.std.proofs.Common.{◌≡◌, ℕ, ◌/◌, ◌%◌, ◌^◌, ◌<◌, ⊎_elim, Bool, true, false, Ok, arith}
use Rattle.std.specs.Prelude.{◌==◌, ◌||◌, ◌&&◌, nat_lt, not, if◌then◌else◌}
use Rattle.std.proofs.lemmas.Bool.{eqb-true}
use Rattle.std.proofs.lemmas.Bool.Decides.{nat_tests}
use Rattle.thumb_instr.specs.declared.instructions.Instr.{Instr}
use Rattle.thumb_instr.specs.declared.instructions.Instr.TheVariants.{Alu, Move, Test, ShiftBy, Wide, Half, Field, Unary, Mul, MulAcc, LongMul, Div, Access, Pair, Multi, Literal, Adr, Branch, ZeroBranch, Call, Jump, CallReg, It, Nothing, Trap}
use Rattle.thumb_instr.specs.declared.operands.Operand.{Operand}
use Rattle.thumb_instr.specs.Operands.{has, is_list}
use Rattle.thumb_instr.specs.Formed.{IsRegister, IsFormed}
use Rattle.thumb_instr.specs.Sets.{writes_of, sets_flags_of, is_flag, is_sum, compares, sign_flags, logic_flags_of, gives_carry, is_store, moves_base, moves_pair_base}
use Rattle.thumb_table.specs.States.{Core, Site, Change}
use Rattle.thumb_table.specs.Effects.{change}
use Rattle.seq_core.specs.Reading.{Covers}
use Rattle.seq_core.proofs.Covered.{writes_all}
use Rattle.sim_charts.proofs.Sets.{or_cases, and_left, and_right}
use Rattle.sim_charts.proofs.Alikeness.{Fills}

no_register : (k d : ℕ) → 14 < k → IsRegister d → (k == d) ≡ true → ⊥
no_register k d h r e = let q = eqb-true k d e in absurd (omega (arith, h, r, q))

two_registers : (k d e : ℕ) → 14 < k → IsRegister d → IsRegister e → ((k == d) || (k == e)) ≡ true → ⊥
two_registers k d e h r s q = ⊎_elim (λ (l : (k == d) ≡ true). no_register k d h r l) (λ (l : (k == e) ≡ true). no_register k e h s l) (or_cases (k == d) (k == e) q)

-- no list has the number
abbrev IsNone : ℕ → Type 0
IsNone k = (list : ℕ) → nat_lt list (2 ^ 15) ≡ true → has list k ≡ true → ⊥

list_low : (list : ℕ) (pc : Bool) → is_list list pc ≡ true → nat_lt list (2 ^ 15) ≡ true
list_low list pc e = and_left (nat_lt list (2 ^ 15)) (not (has list 13)) (and_left (nat_lt list (2 ^ 15) && not (has list 13)) (nat_lt 0 list || pc) e)

below : (list : ℕ) → nat_lt list (2 ^ 15) ≡ true → list < 2 ^ 15
below list e = grind (arith, nat_tests)

none16 : IsNone 16
unfolding has
none16 list e h = let l = below list e in let q = eqb-true (list / 2 ^ 16 % 2) 1 h in absurd (omega (arith, l, q))

none17 : IsNone 17
unfolding has
none17 list e h = let l = below list e in let q = eqb-true (list / 2 ^ 17 % 2) 1 h in absurd (omega (arith, l, q))

none18 : IsNone 18
unfolding has
none18 list e h = let l = below list e in let q = eqb-true (list / 2 ^ 18 % 2) 1 h in absurd (omega (arith, l, q))

none19 : IsNone 19
unfolding has
none19 list e h = let l = below list e in let q = eqb-true (list / 2 ^ 19 % 2) 1 h in absurd (omega (arith, l, q))

-- no number above 14 is written
unwritten : (i : Instr) (k : ℕ) → 14 < k → IsNone k → IsFormed i → writes_of i k ≡ true → ⊥
unfolding writes_of
unwritten (Alu i) k h none f e = no_register k i.d h f.registers.0 e
unwritten (Move i) k h none f e = no_register k i.d h f.registers.0 e
unwritten (Test i) k h none f e = absurd cc
unwritten (ShiftBy i) k h none f e = no_register k i.d h f.registers.0 e
unwritten (Wide i) k h none f e = no_register k i.d h f.registers.0 e
unwritten (Half i) k h none f e = no_register k i.d h f.registers e
unwritten (Field i) k h none f e = no_register k i.d h f.registers.0 e
unwritten (Unary i) k h none f e = no_register k i.d h f.registers.0 e
unwritten (Mul i) k h none f e = no_register k i.d h f.registers.0 e
unwritten (MulAcc i) k h none f e = no_register k i.d h f.registers.0 e
unwritten (LongMul i) k h none f e = two_registers k i.lo i.hi h f.registers.0 f.registers.1 e
unwritten (Div i) k h none f e = no_register k i.d h f.registers.0 e
unwritten (Access i) k h none f e = ⊎_elim
    (λ (l : (not (is_store i.op) && (k == i.t)) ≡ true). no_register k i.t h f.registers.0 (and_right (not (is_store i.op)) (k == i.t) l))
    (λ (l : (moves_base i.place && (k == i.n)) ≡ true). no_register k i.n h f.registers.1 (and_right (moves_base i.place) (k == i.n) l))
    (or_cases (not (is_store i.op) && (k == i.t)) (moves_base i.place && (k == i.n)) e)
unwritten (Pair i) k h none f e = ⊎_elim
    (λ (l : (i.load && ((k == i.t) || (k == i.u))) ≡ true). two_registers k i.t i.u h f.registers.0 f.registers.1 (and_right i.load ((k == i.t) || (k == i.u)) l))
    (λ (l : (moves_pair_base i.index && (k == i.n)) ≡ true). no_register k i.n h f.registers.2 (and_right (moves_pair_base i.index) (k == i.n) l))
    (or_cases (i.load && ((k == i.t) || (k == i.u))) (moves_pair_base i.index && (k == i.n)) e)
unwritten (Multi i) k h none f e = ⊎_elim
    (λ (l : (i.load && has i.list.0 k) ≡ true). none i.list.0 (list_low i.list.0 i.pc f.fields) (and_right i.load (has i.list.0 k) l))
    (λ (l : (i.back && (k == i.n)) ≡ true). no_register k i.n h f.registers (and_right i.back (k == i.n) l))
    (or_cases (i.load && has i.list.0 k) (i.back && (k == i.n)) e)
unwritten (Literal i) k h none f e = no_register k i.t h f.registers e
unwritten (Adr i) k h none f e = no_register k i.d h f.registers e
unwritten (Branch i) k h none f e = absurd cc
unwritten (ZeroBranch i) k h none f e = absurd cc
unwritten (Call i) k h none f e = no_register k 14 h (omega arith) e
unwritten (Jump i) k h none f e = absurd cc
unwritten (CallReg i) k h none f e = no_register k 14 h (omega arith) e
unwritten (It i) k h none f e = absurd cc
unwritten (Nothing i) k h none f e = absurd cc
unwritten (Trap i) k h none f e = absurd cc

-- no number below 15 is a flag
sign_high : (k : ℕ) → sign_flags k ≡ true → 14 < k
sign_high k e = ⊎_elim
    (λ (l : (k == 16) ≡ true). let q = eqb-true k 16 l in omega (arith, q))
    (λ (l : (k == 17) ≡ true). let q = eqb-true k 17 l in omega (arith, q))
    (or_cases (k == 16) (k == 17) e)

flag_high : (k : ℕ) → is_flag k ≡ true → 14 < k
flag_high k e = ⊎_elim
    (λ (l : (k == 16) ≡ true). let q = eqb-true k 16 l in omega (arith, q))
    (λ (m : ((k == 17) || ((k == 18) || (k == 19))) ≡ true). ⊎_elim
    (λ (l : (k == 17) ≡ true). let q = eqb-true k 17 l in omega (arith, q))
    (λ (n : ((k == 18) || (k == 19)) ≡ true). ⊎_elim
    (λ (l : (k == 18) ≡ true). let q = eqb-true k 18 l in omega (arith, q))
    (λ (l : (k == 19) ≡ true). let q = eqb-true k 19 l in omega (arith, q))
    (or_cases (k == 18) (k == 19) n))
    (or_cases (k == 17) ((k == 18) || (k == 19)) m))
    (or_cases (k == 16) ((k == 17) || ((k == 18) || (k == 19))) e)

logic_high : (o : Operand) (k : ℕ) → logic_flags_of o k ≡ true → 14 < k
logic_high o k e = ⊎_elim
    (λ (l : sign_flags k ≡ true). sign_high k l)
    (λ (l : (gives_carry o && (k == 18)) ≡ true). let q = eqb-true k 18 (and_right (gives_carry o) (k == 18) l) in omega (arith, q))
    (or_cases (sign_flags k) (gives_carry o && (k == 18)) e)

either_high : (b : Bool) (o : Operand) (k : ℕ) → (if b then is_flag k else logic_flags_of o k) ≡ true → 14 < k
either_high true o k e = flag_high k e
either_high false o k e = logic_high o k e

flags_high : (i : Instr) (k : ℕ) → sets_flags_of i k ≡ true → 14 < k
unfolding sets_flags_of
flags_high (Alu i) k e = either_high (is_sum i.op) i.x k (and_right i.s _ e)
flags_high (Move i) k e = logic_high i.x k (and_right i.s _ e)
flags_high (Test i) k e = either_high (compares i.op) i.x k e
flags_high (ShiftBy i) k e = sign_high k (and_right i.s _ e)
flags_high (Mul i) k e = sign_high k (and_right i.s _ e)
flags_high i k e = absurd cc

-- what is set is in the change, by members
pub fills_of : (i : Instr) (s : Site) (x : Core) (h : Change) → IsFormed i → change i s x ≡ Ok h → Fills i h
fills_of i s x h f e =
    let c : Covers i h = writes_all i s x h f e in
    record {
      regs = λ k lt d. ⊎_elim
          (λ (l : writes_of i k ≡ true). c.regs k lt l)
          (λ (l : sets_flags_of i k ≡ true). let q = flags_high i k l in absurd (omega (arith, q, lt)))
          (or_cases (writes_of i k) (sets_flags_of i k) d);
      n = λ d. ⊎_elim (λ (l : writes_of i 16 ≡ true). absurd (unwritten i 16 (omega arith) none16 f l)) (λ (l : sets_flags_of i 16 ≡ true). c.n l) (or_cases (writes_of i 16) (sets_flags_of i 16) d);
      z = λ d. ⊎_elim (λ (l : writes_of i 17 ≡ true). absurd (unwritten i 17 (omega arith) none17 f l)) (λ (l : sets_flags_of i 17 ≡ true). c.z l) (or_cases (writes_of i 17) (sets_flags_of i 17) d);
      c = λ d. ⊎_elim (λ (l : writes_of i 18 ≡ true). absurd (unwritten i 18 (omega arith) none18 f l)) (λ (l : sets_flags_of i 18 ≡ true). c.c l) (or_cases (writes_of i 18) (sets_flags_of i 18) d);
      v = λ d. ⊎_elim (λ (l : writes_of i 19 ≡ true). absurd (unwritten i 19 (omega arith) none19 f l)) (λ (l : sets_flags_of i 19 ≡ true). c.v l) (or_cases (writes_of i 19) (sets_flags_of i 19) d);
    }
