-- What is idempotent stays as it is, as often as it stands.
use Rattle.std.proofs.Common.{◌≡◌, ◌≢◌, ℕ, ◌<◌, ◌≤◌, ⊎_elim, Bool, true, false, [], ◌∷◌, Option, Some, None, refl, sym, ap, ◌∙◌, arith}
use Rattle.std.specs.Prelude.{◌==◌, ◌||◌, ◌&&◌, not, if◌then◌else◌}
use Rattle.std.proofs.lemmas.Bool.{eqb-true, and_parts, or_cases}
use Rattle.thumb_instr.specs.declared.operations.FieldOp.{FieldOp}
use Rattle.thumb_instr.specs.declared.operations.FieldOp.TheVariants.{Sbfx, Ubfx, Bfi, Bfc}
use Rattle.thumb_instr.specs.declared.operands.Operand.{Operand}
use Rattle.thumb_instr.specs.declared.operands.Operand.TheVariants.{Imm, Reg}
use Rattle.thumb_instr.specs.declared.instructions.Instr.{Instr}
use Rattle.thumb_instr.specs.declared.instructions.Instr.TheVariants.{Alu, Move, Test, ShiftBy, Wide, Half, Field, Unary, Mul, MulAcc, LongMul, Div, Access, Pair, Multi, Literal, Adr, Branch, ZeroBranch, Call, Jump, CallReg, It, Nothing, Trap}
use Rattle.thumb_instr.specs.Sets.{reads_of, writes_of, sets_flags_of, operand_reads_of, takes_carry_in, sums_with_carry, is_flag, is_carry_flag, sign_flags, logic_flags_of, gives_carry}
use Rattle.thumb_instr.specs.MaySet.{may_set_of}
use Rattle.thumb_instr.specs.Idempotence.{KeepsSources, fills_in}
use Rattle.thumb_instr.specs.Formed.{IsFormed, NamesRegisters, OperandNamesRegisters}
use Rattle.seq_core.specs.Apart.{goes_on_always, IsApart}
use Rattle.seq_core.proofs.Tests.{same_number}
use Rattle.thumb_table.specs.Effects.{change}
use Rattle.seq_core.specs.Reading.{uses_of, tests_of}
use Rattle.seq_core.specs.Meanings.{Ends, meant}
use Rattle.seq_core.specs.Sequences.{Carries, Settles}
use Rattle.seq_core.specs.Groups.{always, nothing}
use Rattle.seq_core.specs.Twice.{StaysInPlace, IdempotentCarries}
use Rattle.seq_core.proofs.Twice.{twice_is_done}
use Rattle.seq_core.proofs.Calls.{branch_is_done, trap_is_done}
use Rattle.seq_core.proofs.Halves.{half_is_done}
use Rattle.seq_core.proofs.Fields.{clear_is_done, insert_is_done}
use Rattle.mark_word.specs.declared.marks.Mark.TheVariants.{Plain}

-- the only flag that an instruction reads is C
flag_is_no_register : (k r : ℕ) → r ≤ 14 → is_flag k ≡ true → (k == r) ≡ true → ⊥
flag_is_no_register k r le f e = let s : k ≡ r = eqb-true k r e in go k (le_of k r s le) f
  where
    le_of : (k r : ℕ) → k ≡ r → r ≤ 14 → k < 15
    le_of k r s le = omega (arith, s, le)

    go : (k : ℕ) → k < 15 → is_flag k ≡ true → ⊥
    go k lt f = ⊎_elim (λ e. let s = eqb-true k 16 e in omega (arith, s, lt))
        (λ g. ⊎_elim (λ e. let s = eqb-true k 17 e in omega (arith, s, lt)) (λ h. ⊎_elim (λ e. let s = eqb-true k 18 e in omega (arith, s, lt)) (λ e. let s = eqb-true k 19 e in omega (arith, s, lt)) (or_cases (k == 18) (k == 19) h)) (or_cases (k == 17) _ g))
        (or_cases (k == 16) _ f)

carry_by : (b : Bool) (k : ℕ) → (b && is_carry_flag k) ≡ true → k ≡ 18
carry_by b k e = eqb-true k 18 (and_parts b (is_carry_flag k) e).1

operand_carry : (x : Operand) (k : ℕ) → OperandNamesRegisters x → is_flag k ≡ true → operand_reads_of x k ≡ true → k ≡ 18
operand_carry (Imm i) k n f e = absurd cc
operand_carry (Reg m kind amount) k n f e = ⊎_elim (λ s. absurd (flag_is_no_register k m n f s)) (λ c. carry_by (takes_carry_in kind) k c) (or_cases (k == m) (takes_carry_in kind && is_carry_flag k) e)

-- what may be set is a flag
logic_flag : (s : Bool) (x : Operand) (k : ℕ) → (s && logic_flags_of x k) ≡ true → is_flag k ≡ true
logic_flag s x k e = go (k == 16) (k == 17) (k == 18) (k == 19) s (gives_carry x) e
  where
    go : (n z c v s g : Bool) → (s && ((n || z) || (g && c))) ≡ true → (n || (z || (c || v))) ≡ true
    go true z c v s g e = refl
    go false true c v s g e = refl
    go false false true v s g e = refl
    go false false false v true true e = absurd cc
    go false false false v true false e = absurd cc
    go false false false v false g e = absurd cc

sum_flag : (s b : Bool) (x : Operand) (k : ℕ) → (s && (if b then is_flag k else logic_flags_of x k)) ≡ true → is_flag k ≡ true
sum_flag s true x k e = (and_parts s (is_flag k) e).1
sum_flag s false x k e = logic_flag s x k e

test_flag : (b : Bool) (x : Operand) (k : ℕ) → (if b then is_flag k else logic_flags_of x k) ≡ true → is_flag k ≡ true
test_flag true x k e = e
test_flag false x k e = logic_flag true x k e

sign_flag : (s c : Bool) (k : ℕ) → (s && (sign_flags k || (c && is_carry_flag k))) ≡ true → is_flag k ≡ true
sign_flag s c k e = go (k == 16) (k == 17) (k == 18) (k == 19) s c e
  where
    go : (n z c v s g : Bool) → (s && ((n || z) || (g && c))) ≡ true → (n || (z || (c || v))) ≡ true
    go true z c v s g e = refl
    go false true c v s g e = refl
    go false false true v s g e = refl
    go false false false v true true e = absurd cc
    go false false false v true false e = absurd cc
    go false false false v false g e = absurd cc

-- where the only flag that is read is C, and it isn't set
by_carry : (i : Instr) (k : ℕ) (b : Bool) → (reads_of i 18 && sets_flags_of i 18) ≡ false → reads_of i k ≡ true → (b ≡ true → k ≡ 18) → (k ≡ 18 → b ≡ sets_flags_of i 18) → b ≡ false
by_carry i k false c r s t = refl
by_carry i k true c r s t =
    let is : k ≡ 18 = s refl in
    let read : reads_of i 18 ≡ true = sym (ap (λ m. reads_of i m) is) ∙ r in
    let set : sets_flags_of i 18 ≡ true = sym (t is) in
    let both : (reads_of i 18 && sets_flags_of i 18) ≡ true = ap (λ a. a && sets_flags_of i 18) read ∙ set in
    absurd cc

never : (b : Bool) → (b ≡ true → ⊥) → b ≡ false
never true f = absurd (f refl)
never false f = refl

pub flags_apart : (i : Instr) (k : ℕ) → NamesRegisters i → (reads_of i 18 && sets_flags_of i 18) ≡ false → reads_of i k ≡ true → may_set_of i k ≡ false
unfolding reads_of sets_flags_of
flags_apart (Alu i) k n c r = by_carry (Alu i) k _ c r
    (λ s. let f = sum_flag i.s _ i.x k s in
    ⊎_elim (λ e. absurd (flag_is_no_register k i.n n.1 f e)) (λ o. ⊎_elim (λ e. operand_carry i.x k n.2 f e) (λ e. carry_by (sums_with_carry i.op) k e) (or_cases (operand_reads_of i.x k) _ o)) (or_cases (k == i.n) _ r))
    (λ e. ap (λ k. sets_flags_of (Alu i) k) e)
flags_apart (Move i) k n c r = by_carry (Move i) k _ c r (λ s. operand_carry i.x k n.1 (logic_flag i.s i.x k s) r) (λ e. ap (λ k. sets_flags_of (Move i) k) e)
flags_apart (Test i) k n c r = by_carry (Test i) k _ c r
    (λ s. let f = test_flag _ i.x k s in ⊎_elim (λ e. absurd (flag_is_no_register k i.n n.0 f e)) (λ e. operand_carry i.x k n.1 f e) (or_cases (k == i.n) _ r))
    (λ e. ap (λ k. sets_flags_of (Test i) k) e)
flags_apart (ShiftBy i) k n c r = never _ (λ s. let f = sign_flag i.s true k s in ⊎_elim (λ e. flag_is_no_register k i.n n.1 f e) (λ e. flag_is_no_register k i.m n.2 f e) (or_cases (k == i.n) _ r))
flags_apart (Mul i) k n c r = never _ (λ s. let f = sign_flag i.s false k (mul_sign i.s k s) in ⊎_elim (λ e. flag_is_no_register k i.n n.1 f e) (λ e. flag_is_no_register k i.m n.2 f e) (or_cases (k == i.n) _ r))
  where
    mul_sign : (s : Bool) (k : ℕ) → (s && sign_flags k) ≡ true → (s && (sign_flags k || (false && is_carry_flag k))) ≡ true
    mul_sign s k e = ap (λ b. s && b) (or_none (sign_flags k)) ∙ e
      where
        or_none : (b : Bool) → (b || false) ≡ b
        or_none true = refl
        or_none false = refl
flags_apart (Wide i) k n c r = refl
flags_apart (Half i) k n c r = refl
flags_apart (Field i) k n c r = refl
flags_apart (Unary i) k n c r = refl
flags_apart (MulAcc i) k n c r = refl
flags_apart (LongMul i) k n c r = refl
flags_apart (Div i) k n c r = refl
flags_apart (Access i) k n c r = refl
flags_apart (Pair i) k n c r = refl
flags_apart (Multi i) k n c r = refl
flags_apart (Literal i) k n c r = refl
flags_apart (Adr i) k n c r = refl
flags_apart (Branch i) k n c r = refl
flags_apart (ZeroBranch i) k n c r = refl
flags_apart (Call i) k n c r = refl
flags_apart (Jump i) k n c r = refl
flags_apart (CallReg i) k n c r = refl
flags_apart (It i) k n c r = refl
flags_apart (Nothing i) k n c r = refl
flags_apart (Trap i) k n c r = refl

pub not_tested : (i : Instr) (k : ℕ) → goes_on_always i ≡ true → uses_of i k ≡ true → reads_of i k ≡ true
not_tested i k g u = ⊎_elim (λ r. r) (λ t. absurd (none i k g t)) (or_cases (reads_of i k) (tests_of i k) u)
  where
    none : (i : Instr) (k : ℕ) → goes_on_always i ≡ true → tests_of i k ≡ true → ⊥
    none (Branch i) k g t = absurd cc
    none (Alu i) k g t = absurd cc
    none (Move i) k g t = absurd cc
    none (Test i) k g t = absurd cc
    none (ShiftBy i) k g t = absurd cc
    none (Mul i) k g t = absurd cc
    none (Wide i) k g t = absurd cc
    none (Half i) k g t = absurd cc
    none (Field i) k g t = absurd cc
    none (Unary i) k g t = absurd cc
    none (MulAcc i) k g t = absurd cc
    none (LongMul i) k g t = absurd cc
    none (Div i) k g t = absurd cc
    none (Access i) k g t = absurd cc
    none (Pair i) k g t = absurd cc
    none (Multi i) k g t = absurd cc
    none (Literal i) k g t = absurd cc
    none (Adr i) k g t = absurd cc
    none (ZeroBranch i) k g t = absurd cc
    none (Call i) k g t = absurd cc
    none (Jump i) k g t = absurd cc
    none (CallReg i) k g t = absurd cc
    none (It i) k g t = absurd cc
    none (Nothing i) k g t = absurd cc
    none (Trap i) k g t = absurd cc

pub apart_of : (i : Instr) → goes_on_always i ≡ true → KeepsSources i → IsFormed i → (reads_of i 18 && sets_flags_of i 18) ≡ false → IsApart i
apart_of i g keeps f c = record {
  regs = λ k r. never (writes_of i k) (λ w. let both : (reads_of i k && writes_of i k) ≡ true = ap (λ a. a && writes_of i k) r ∙ w in let no = keeps k in absurd cc);
  flags = λ k u. flags_apart i k f.registers c (not_tested i k g u);
}

abbrev Itself : Instr → Ends → ℕ → Type 0
Itself i e end = Carries Settles end always (meant i e) nothing (meant i e ∷ [])

by_sources : (i : Instr) (e : Ends) (end : ℕ) → goes_on_always i ≡ true → StaysInPlace i → (fills_in i ≡ true → Itself i e end) → Itself i e end
by_sources i e end g s f = ⊎_elim (λ keeps. twice_is_done i e end g (apart_of i g keeps s.formed s.carry)) f s.idempotent.0

differs : (a b : ℕ) → (a == b) ≡ false → a ≢ b
differs a b e s = let t : (a == b) ≡ true = ap (λ k. a == k) (sym s) ∙ same_number a in absurd cc

half_in_place : (top : Bool) (d imm : ℕ) (e : Ends) (end : ℕ) → let i : Instr = Half (record { top = top; d = d; imm = imm }) in StaysInPlace i → Itself i e end
unfolding meant change writes_of
half_in_place false d imm e end s = by_sources (Half (record { top = false; d = d; imm = imm })) e end refl s (λ f. absurd cc)
half_in_place true d imm e end s = half_is_done true d imm end Plain (let r = s.formed.registers in omega (arith, r)) (λ is. differs 13 d (s.stack refl) (sym is))

field_in_place : (op : FieldOp) (d : ℕ) (n : Option ℕ) (lsb width : ℕ) (e : Ends) (end : ℕ) → let i : Instr = Field (record { op = op; d = d; n = n; lsb = lsb; width = width }) in StaysInPlace i → Itself i e end
unfolding meant writes_of
field_in_place Sbfx d n lsb width e end s = by_sources (Field (record { op = Sbfx; d = d; n = n; lsb = lsb; width = width })) e end refl s (λ f. absurd cc)
field_in_place Ubfx d n lsb width e end s = by_sources (Field (record { op = Ubfx; d = d; n = n; lsb = lsb; width = width })) e end refl s (λ f. absurd cc)
field_in_place Bfc d None lsb width e end s = by_sources (Field (record { op = Bfc; d = d; n = None; lsb = lsb; width = width })) e end refl s
    (λ f. clear_is_done d lsb width end (let r = s.formed.registers.0 in omega (arith, r)) (λ is. differs 13 d (s.stack f) (sym is)))
field_in_place Bfc d (Some n) lsb width e end s = let f = s.formed.fields in absurd cc
field_in_place Bfi d None lsb width e end s = let f = s.formed.fields in absurd cc
field_in_place Bfi d (Some n) lsb width e end s = by_sources (Field (record { op = Bfi; d = d; n = Some n; lsb = lsb; width = width })) e end refl s
    (λ f. insert_is_done d n lsb width end (let r = s.formed.registers.0 in omega (arith, r)) (λ is. differs 13 d (s.stack f) (sym is)) (λ is. differs d n (unsame (d == n) f) (sym is)))
  where
    unsame : (b : Bool) → not b ≡ true → b ≡ false
    unsame true e = absurd cc
    unsame false e = refl

-- CLASS TWICE, ALL OF IT
pub in_place : IdempotentCarries
unfolding meant change
in_place (Alu i) e end s = by_sources (Alu i) e end refl s (λ f. absurd cc)
in_place (Move i) e end s = by_sources (Move i) e end refl s (λ f. absurd cc)
in_place (Test i) e end s = by_sources (Test i) e end refl s (λ f. absurd cc)
in_place (ShiftBy i) e end s = by_sources (ShiftBy i) e end refl s (λ f. absurd cc)
in_place (Wide i) e end s = by_sources (Wide i) e end refl s (λ f. absurd cc)
in_place (Unary i) e end s = by_sources (Unary i) e end refl s (λ f. absurd cc)
in_place (Mul i) e end s = by_sources (Mul i) e end refl s (λ f. absurd cc)
in_place (MulAcc i) e end s = by_sources (MulAcc i) e end refl s (λ f. absurd cc)
in_place (LongMul i) e end s = by_sources (LongMul i) e end refl s (λ f. absurd cc)
in_place (Div i) e end s = by_sources (Div i) e end refl s (λ f. absurd cc)
in_place (Access i) e end s = by_sources (Access i) e end refl s (λ f. absurd cc)
in_place (Pair i) e end s = by_sources (Pair i) e end refl s (λ f. absurd cc)
in_place (Literal i) e end s = by_sources (Literal i) e end refl s (λ f. absurd cc)
in_place (Nothing i) e end s = by_sources (Nothing i) e end refl s (λ f. absurd cc)
in_place (Half i) e end s = half_in_place i.top i.d i.imm e end s
in_place (Field i) e end s = field_in_place i.op i.d i.n i.lsb i.width e end s
in_place (Multi i) e end s = by_sources (Multi i) e end (ap not s.idempotent.1) s (λ f. absurd cc)
in_place (Branch i) e end s = branch_is_done i.cond e.target end
in_place (Trap i) e end s = trap_is_done end
in_place (Adr i) e end s = let f = s.idempotent.1 in absurd cc
in_place (ZeroBranch i) e end s = let f = s.idempotent.1 in absurd cc
in_place (Call i) e end s = let f = s.idempotent.1 in absurd cc
in_place (Jump i) e end s = let f = s.idempotent.1 in absurd cc
in_place (CallReg i) e end s = let f = s.idempotent.1 in absurd cc
in_place (It i) e end s = let f = s.idempotent.1 in absurd cc
