-- Codes of the instructions that stand in units.
use Rattle.std.proofs.Common.{ℤ, pos, negsuc, ◌-ℤ◌, ◌-◌, ◌%◌, eq-eqb, ◌≡◌, ◌≤◌, ◌<◌, ℕ, ◌+◌, ◌*◌, ◌/◌, ◌^◌, Bool, true, false, refl, sym, ap, ◌∙◌, subst, arith, inl, inr, Ok}
use Rattle.std.specs.Prelude.{nat_le, ◌==◌, if◌then◌else◌}
use Rattle.std.proofs.lemmas.Bool.{leb-true, leb-false, ltb-true, lt-ltb}
use Rattle.std.proofs.lemmas.Int.{ints}
use Rattle.thumb_instr.specs.Operands.{is_even}
use Rattle.thumb_instr.specs.Formed.{NamesRegisters, TakesFields, DecodesFormed}
use Rattle.seq_core.specs.Accepted.{DecodesApart, DecodesTestLow}
use Rattle.branch_layout.specs.Goals.{base_of, offset_to, distance, aimed, AreNear}
use Rattle.branch_layout.proofs.ZeroFacts.{zero_coded}
use Rattle.thumb_instr.specs.declared.instructions.Instr.{Instr}
use Rattle.thumb_instr.specs.declared.instructions.Instr.TheVariants as instr
use Rattle.thumb_instr.specs.declared.refusals.ItPlace.TheVariants.{Outside}
use Rattle.thumb_instr.specs.Fields.{AdrFields, BranchFields, CallFields, LiteralFields, ZeroBranchFields}
use Rattle.thumb_instr.specs.Patterns.{decoded}
use Rattle.thumb_instr.specs.HalfRows.{half_rows}
use Rattle.thumb_instr.specs.FullRows.{full_rows}
use Rattle.thumb_instr.specs.Rows.{is_wide, decode}
use Rattle.thumb_encode.specs.declared.codes.Width.{Width}
use Rattle.thumb_encode.specs.declared.codes.Width.TheVariants.{Half, Full}
use Rattle.thumb_encode.specs.declared.codes.Code.{Code}
use Rattle.thumb_encode.specs.declared.codes.Code.TheVariants as code
use Rattle.thumb_encode.specs.Encoding.{IsCodeOf}
use Rattle.thumb_encode.specs.HasFull.{has_full, is_signed, is_always, TellsCodes}
use Rattle.thumb_encode.specs.HalfCodes.{half_code, later_code}
use Rattle.thumb_encode.proofs.Covering.{if_true, if_false}
use Rattle.thumb_encode.proofs.FullTold.{code_told}
use Rattle.thumb_encode.proofs.Standing.{half-candidate}
use Rattle.seq_core.specs.Builders.{HasRow}
use Rattle.branch_layout.specs.Widths.{IsShortest}
use Rattle.branch_layout.specs.Codes.{NumbersHaveCodes}

-- A row of an instruction without a code of one halfword is one of two.
pub row_is_full : (i : Instr) → HasRow i → ((c : Code) → ¬ IsCodeOf i Half c) → has_full i ≡ true
row_is_full i row none = go (is_wide row.first) refl
  where
    low : (h : ℕ) → is_wide h ≡ false → h < 2 ^ 16
    low h e = let l : h / 2 ^ 11 < 29 = leb-false 29 (h / 2 ^ 11) e in omega arith

    go : (b : Bool) → is_wide row.first ≡ b → has_full i ≡ true
    go true e = code_told (row.first * 2 ^ 16 + row.second) i (sym (if_true (is_wide row.first) (decoded 32 (full_rows Outside) (row.first * 2 ^ 16 + row.second)) (decoded 16 (half_rows Outside) row.first) e) ∙ row.stands)
    go false e =
        let half : decoded 16 (half_rows Outside) row.first ≡ Ok i = sym (if_false (is_wide row.first) (decoded 32 (full_rows Outside) (row.first * 2 ^ 16 + row.second)) (decoded 16 (half_rows Outside) row.first) e) ∙ row.stands in
        let alone : decode Outside row.first 0 ≡ Ok i = if_false (is_wide row.first) (decoded 32 (full_rows Outside) (row.first * 2 ^ 16 + 0)) (decoded 16 (half_rows Outside) row.first) e ∙ half in
        absurd (none (code.Half row.first) (refl, (low row.first e, e, alone)))

-- ADR has none of one halfword.
pub adr_is_full : (i : AdrFields) (c : Code) → ¬ IsCodeOf (instr.Adr i) Half c
unfolding half_code later_code
adr_is_full i (code.Half h) is = elim (half-candidate (instr.Adr i) h is.1) [ inl e ↦ absurd (cc) | inr e ↦ absurd (cc) ]
adr_is_full i (code.Full a b) is = absurd (cc is.0)

-- OFFSETS

-- a difference is a number upwards or downwards
pub data IsDifference (a b : ℕ) (z : ℤ) : Type 0 where
  upwards : (n : ℕ) → z ≡ pos n → a + n ≡ b → IsDifference a b z
  downwards : (n : ℕ) → z ≡ negsuc n → b + n + 1 ≡ a → IsDifference a b z

pub difference : (a b : ℕ) → IsDifference a b (pos b -ℤ pos a)
difference a b = go (nat_le a b) refl
  where
    go : (t : Bool) → nat_le a b ≡ t → IsDifference a b (pos b -ℤ pos a)
    go true e = let le : a ≤ b = leb-true a b e in upwards (b - a) (omega (arith, ints)) (omega arith)
    go false e = let lt : b < a = leb-false a b e in downwards (a - b - 1) (omega (arith, ints)) (omega arith)

even_offset : (at to : ℕ) → at % 2 ≡ 0 → to % 2 ≡ 0 → is_even (offset_to at to) ≡ true
even_offset at to ea et = go (offset_to at to) (difference (at + 4) to)
  where
    go : (z : ℤ) → IsDifference (at + 4) to z → is_even z ≡ true
    go z (upwards n e f) = ap is_even e ∙ eq-eqb (n % 2) 0 (omega arith)
    go z (downwards n e f) = ap is_even e ∙ eq-eqb (n % 2) 1 (omega arith)

near_offset : (w at to : ℕ) → 21 ≤ w → w ≤ 25 → 2 ^ 20 ≤ 2 ^ (w - 1) → at ≤ 524288 → to ≤ 524288 → is_signed w (offset_to at to) ≡ true
near_offset w at to lw hw most la lt = go (offset_to at to) (difference (at + 4) to)
  where
    go : (z : ℤ) → IsDifference (at + 4) to z → is_signed w z ≡ true
    go z (upwards n e f) = ap (is_signed w) e ∙ lt-ltb n (2 ^ (w - 1)) (omega arith)
    go z (downwards n e f) = ap (is_signed w) e ∙ lt-ltb n (2 ^ (w - 1)) (omega arith)

-- CODES WHERE NUMBERS REACH

given_code : TellsCodes → (i : Instr) → NamesRegisters i → TakesFields i → has_full i ≡ true → (c : Code) × IsCodeOf i Full c
given_code tells i n f h = let c = (tells i n f).0 h in (code.Full c.0 c.1, (refl, c.2))

branch_code : TellsCodes → (i : BranchFields) (at to : ℕ) → AreNear at to → (c : Code) × IsCodeOf (aimed at to (instr.Branch i)) Full c
unfolding has_full
branch_code tells i at to near = given_code tells (aimed at to (instr.Branch i)) tt (even_offset at to near.even near.even_goal) (go (is_always i.cond))
  where
    go : (b : Bool) → is_signed (if b then 25 else 21) (offset_to at to) ≡ true
    go true = near_offset 25 at to (omega arith) (omega arith) (omega arith) near.low near.low_goal
    go false = near_offset 21 at to (omega arith) (omega arith) (omega arith) near.low near.low_goal

call_code : TellsCodes → (i : CallFields) (at to : ℕ) → AreNear at to → (c : Code) × IsCodeOf (aimed at to (instr.Call i)) Full c
unfolding has_full
call_code tells i at to near = given_code tells (aimed at to (instr.Call i)) tt (even_offset at to near.even near.even_goal) (near_offset 25 at to (omega arith) (omega arith) (omega arith) near.low near.low_goal)

-- the register of ADR and of a load
adr_code : TellsCodes → DecodesFormed → (i : AdrFields) (at to : ℕ) → HasRow (instr.Adr i) → (base_of at ≤ to + 1) × (to + 1 < base_of at + 4096) → (c : Code) × IsCodeOf (aimed at to (instr.Adr i)) Full c
unfolding has_full
adr_code tells formed i at to row near =
    let full : has_full (instr.Adr i) ≡ true = row_is_full (instr.Adr i) row (adr_is_full i) in
    let low = near.0 in
    let high = near.1 in
    given_code tells (aimed at to (instr.Adr i)) (formed Outside row.first row.second (instr.Adr i) row.stands).registers (lt-ltb (to + 1 - base_of at) 4096 (omega arith)) full

zero_code : DecodesTestLow → (i : ZeroBranchFields) (at to : ℕ) → HasRow (instr.ZeroBranch i) → AreNear at to → at + 4 ≤ to → to ≤ at + 130 → (c : Code) × IsCodeOf (aimed at to (instr.ZeroBranch i)) Half c
zero_code low i at to row near le most =
    let register : i.n < 8 = ltb-true i.n 8 (low Outside row.first row.second (instr.ZeroBranch i) row.stands) in
    let even : at % 2 ≡ 0 = near.even in
    let even_goal : to % 2 ≡ 0 = near.even_goal in
    let offset : offset_to at to ≡ pos (to - (at + 4)) = omega (arith, ints) in
    subst (λ (z : ℤ). (c : Code) × IsCodeOf (instr.ZeroBranch (record { nonzero = i.nonzero; n = i.n; offset = z })) Half c) (sym offset)
    (zero_coded i.nonzero i.n (to - (at + 4)) register (omega arith) (omega arith))

literal_code : TellsCodes → DecodesFormed → DecodesApart → (i : LiteralFields) (at to : ℕ) → HasRow (instr.Literal i) → distance at to ≤ 4095 → (c : Code) × IsCodeOf (aimed at to (instr.Literal i)) Full c
unfolding has_full
literal_code tells formed apart i at to row near = go (nat_le (base_of at) to) near
  where
    stack : (i.t == 13) ≡ false
    stack = (apart Outside row.first row.second (instr.Literal i) row.stands).1

    coded : (up : Bool) (n : ℕ) → n ≤ 4095 → (c : Code) × IsCodeOf (instr.Literal (record { t = i.t; up = up; imm = n })) Full c
    coded up n le =
        given_code tells (instr.Literal (record { t = i.t; up = up; imm = n })) (formed Outside row.first row.second (instr.Literal i) row.stands).registers (lt-ltb n 4096 (omega arith)) (rw stack refl)

    go : (b : Bool) → (if b then to - base_of at else base_of at - to) ≤ 4095
        → (c : Code) × IsCodeOf (if b then instr.Literal (record i { up = true; imm = to - base_of at }) else instr.Literal (record i { up = false; imm = base_of at - to })) Full c
    go true le = coded true (to - base_of at) le
    go false le = coded false (base_of at - to) le

-- A call has none of one halfword.
call_is_full : (i : CallFields) (c : Code) → ¬ IsCodeOf (instr.Call i) Half c
unfolding half_code later_code
call_is_full i (code.Half h) is = elim (half-candidate (instr.Call i) h is.1) [ inl e ↦ absurd (cc) | inr e ↦ absurd (cc) ]
call_is_full i (code.Full a b) is = absurd (cc is.0)

module _ (tells : TellsCodes) (formed : DecodesFormed) (apart : DecodesApart) (low : DecodesTestLow) where
  own_code : (i : Instr) (w : Width) → HasRow i → IsShortest i w → (c : Code) × IsCodeOf i w c
  own_code i Half row short = short
  own_code i Full row short = let is = formed Outside row.first row.second i row.stands in given_code tells i is.registers is.fields (row_is_full i row short)

  zero_of : (i : ZeroBranchFields) (w : Width) (at to : ℕ) → HasRow (instr.ZeroBranch i) → IsShortest (instr.ZeroBranch i) w → AreNear at to × (at + 4 ≤ to) × (to ≤ at + 130) → (c : Code) × IsCodeOf (aimed at to (instr.ZeroBranch i)) w c
  unfolding has_full
  zero_of i Half at to row short near = zero_code low i at to row near.0 near.1 near.2
  zero_of i Full at to row short near = absurd (let full : has_full (instr.ZeroBranch i) ≡ true = row_is_full (instr.ZeroBranch i) row short in cc)

  call_of : (i : CallFields) (w : Width) (at to : ℕ) → IsShortest (instr.Call i) w → AreNear at to → (c : Code) × IsCodeOf (aimed at to (instr.Call i)) w c
  call_of i Half at to short near = absurd (call_is_full i short.0 short.1)
  call_of i Full at to short near = call_code tells i at to near

  adr_of : (i : AdrFields) (w : Width) (at to : ℕ) → HasRow (instr.Adr i) → IsShortest (instr.Adr i) w → (base_of at ≤ to + 1) × (to + 1 < base_of at + 4096) → (c : Code) × IsCodeOf (aimed at to (instr.Adr i)) w c
  adr_of i Half at to row short near = absurd (adr_is_full i short.0 short.1)
  adr_of i Full at to row short near = adr_code tells formed i at to row near

  pub have_codes : NumbersHaveCodes
  have_codes (instr.Branch i) w at to row long near = subst (λ (v : Width). (c : Code) × IsCodeOf (aimed at to (instr.Branch i)) v c) (sym long) (branch_code tells i at to near)
  have_codes (instr.Literal i) w at to row long near = subst (λ (v : Width). (c : Code) × IsCodeOf (aimed at to (instr.Literal i)) v c) (sym long) (literal_code tells formed apart i at to row near)
  have_codes (instr.ZeroBranch i) w at to row long near = zero_of i w at to row long near
  have_codes (instr.Call i) w at to row long near = call_of i w at to long near
  have_codes (instr.Adr i) w at to row long near = adr_of i w at to row long near
  have_codes i w at to row long near = own_code i w row long
