-- Branches whose offset fits have a code of two halfwords.
use Rattle.std.proofs.Common.{◌≡◌, ℕ, ℤ, pos, negsuc, zero, suc, ◌+◌, ◌-◌, ◌*◌, ◌/◌, ◌%◌, ◌^◌, ◌<◌, ◌≤◌, true, false, List, [], ◌∷◌, refl, ap, ◌∙◌, arith, Ok, ◌==◌, nat_lt, if◌then◌else◌}
use Rattle.std.proofs.lemmas.Bool.{eqb-true, ltb-true}
use Rattle.std.proofs.lemmas.Bool.Decides.{nat_tests}
use Rattle.thumb_instr.specs.declared.conditions.Cond.{Cond}
use Rattle.thumb_instr.specs.declared.conditions.Cond.TheVariants.{Al}
use Rattle.thumb_instr.specs.declared.instructions.Instr.TheVariants as instr
use Rattle.thumb_instr.specs.declared.refusals.ItPlace.TheVariants.{Outside}
use Rattle.thumb_instr.specs.Fields.{BranchFields, CallFields}
use Rattle.thumb_instr.specs.Operands.{is_even}
use Rattle.thumb_instr.specs.Patterns.{Bits, Fixed, Field}
use Rattle.thumb_instr.specs.Meanings.{signed}
use Rattle.mark_word.specs.Formulas.{one_if}
use Rattle.thumb_instr.specs.FullRows.{full_rows, on_condition_branch, long_offset}
use Rattle.thumb_instr.specs.Blocks.{condition_number}
use Rattle.thumb_encode.specs.HasFull.{has_full, is_signed, is_always}
use Rattle.thumb_encode.proofs.Covering.{if_true, if_false}
use Rattle.thumb_encode.proofs.Putting.{IsGiven, IsCoded, Leads, coded, coded_behind, full_row, first_answers, rows_like, is_pattern}
use Rattle.thumb_encode.proofs.Coded.{one_bit, taken}

-- the lowest w bits of a signed number
abbrev pub lowest : ℕ → ℤ → ℕ
lowest w (pos n) = n
lowest w (negsuc n) = 2 ^ w - 1 - n

-- what they are, and what they stand for
pub record IsLowest (w : ℕ) (offset : ℤ) : Type 0 where
  pub small : lowest w offset < 2 ^ w
  pub even : lowest w offset % 2 ≡ 0
  pub again : signed w (lowest w offset) ≡ offset

not_less : (a b : ℕ) → b ≤ a → nat_lt a b ≡ false
not_less a b less = grind (arith, nat_tests)

lowest_25 : (offset : ℤ) → is_even offset ≡ true → is_signed 25 offset ≡ true → IsLowest 25 offset
lowest_25 (pos n) even e =
    let less = ltb-true n (2 ^ 24) e in
    let rest = eqb-true (n % 2) 0 even in
    record { small = omega arith; even = rest; again = if_true (nat_lt n (2 ^ 24)) _ _ e }
lowest_25 (negsuc n) even e =
    let less = ltb-true n (2 ^ 24) e in
    let rest = eqb-true (n % 2) 1 even in
    let high : 2 ^ 24 ≤ 2 ^ 25 - 1 - n = omega arith in
    let back : 2 ^ 25 - 1 - (2 ^ 25 - 1 - n) ≡ n = omega arith in
    record { small = omega arith; even = omega arith; again = if_false (nat_lt (2 ^ 25 - 1 - n) (2 ^ 24)) _ _ (not_less (2 ^ 25 - 1 - n) (2 ^ 24) high) ∙ ap negsuc back }

lowest_21 : (offset : ℤ) → is_even offset ≡ true → is_signed 21 offset ≡ true → IsLowest 21 offset
lowest_21 (pos n) even e =
    let less = ltb-true n (2 ^ 20) e in
    let rest = eqb-true (n % 2) 0 even in
    record { small = omega arith; even = rest; again = if_true (nat_lt n (2 ^ 20)) _ _ e }
lowest_21 (negsuc n) even e =
    let less = ltb-true n (2 ^ 20) e in
    let rest = eqb-true (n % 2) 1 even in
    let high : 2 ^ 20 ≤ 2 ^ 21 - 1 - n = omega arith in
    let back : 2 ^ 21 - 1 - (2 ^ 21 - 1 - n) ≡ n = omega arith in
    record { small = omega arith; even = omega arith; again = if_false (nat_lt (2 ^ 21 - 1 - n) (2 ^ 20)) _ _ (not_less (2 ^ 21 - 1 - n) (2 ^ 20) high) ∙ ap negsuc back }

-- B, T4, and BL

sign_again : (p s : ℕ) → p < 2 → s < 2 → one_if (one_if (p == s) == s) ≡ p
sign_again zero zero x y = refl
sign_again zero (suc zero) x y = refl
sign_again (suc zero) zero x y = refl
sign_again (suc zero) (suc zero) x y = refl
sign_again p (suc (suc s)) x y = absurd (omega arith)
sign_again (suc (suc p)) s x y = absurd (omega arith)

whole_25 : (z : ℕ) → z < 2 ^ 25 → z % 2 ≡ 0
    → 2 ^ 24 * (z / 2 ^ 24) + 2 ^ 23 * (z / 2 ^ 23 % 2) + 2 ^ 22 * (z / 2 ^ 22 % 2) + 2 ^ 12 * (z / 2 ^ 12 % 2 ^ 10) + 2 * (z / 2 % 2 ^ 11) ≡ z
whole_25 z small even = omega arith

long_again : (z : ℕ) → z < 2 ^ 25 → z % 2 ≡ 0
    → long_offset (z / 2 ^ 24) (z / 2 ^ 12 % 2 ^ 10) (one_if (z / 2 ^ 23 % 2 == z / 2 ^ 24)) (one_if (z / 2 ^ 22 % 2 == z / 2 ^ 24)) (z / 2 % 2 ^ 11) ≡ z
long_again z small even =
    let s = z / 2 ^ 24 in
    let one : z / 2 ^ 23 % 2 < 2 = omega arith in
    let two : z / 2 ^ 22 % 2 < 2 = omega arith in
    let sign : z / 2 ^ 24 < 2 = omega arith in
    ap (λ (p : ℕ). 2 ^ 24 * s + 2 ^ 23 * p + 2 ^ 22 * one_if (one_if (z / 2 ^ 22 % 2 == s) == s) + 2 ^ 12 * (z / 2 ^ 12 % 2 ^ 10) + 2 * (z / 2 % 2 ^ 11)) (sign_again (z / 2 ^ 23 % 2) s one sign)
    ∙ ap (λ (q : ℕ). 2 ^ 24 * s + 2 ^ 23 * (z / 2 ^ 23 % 2) + 2 ^ 22 * q + 2 ^ 12 * (z / 2 ^ 12 % 2 ^ 10) + 2 * (z / 2 % 2 ^ 11)) (sign_again (z / 2 ^ 22 % 2) s two sign)
    ∙ whole_25 z small even

offset_again : (offset : ℤ) → IsLowest 25 offset
    → signed 25 (long_offset (lowest 25 offset / 2 ^ 24) (lowest 25 offset / 2 ^ 12 % 2 ^ 10) (one_if (lowest 25 offset / 2 ^ 23 % 2 == lowest 25 offset / 2 ^ 24)) (one_if (lowest 25 offset / 2 ^ 22 % 2 == lowest 25 offset / 2 ^ 24)) (lowest 25 offset / 2 % 2 ^ 11)) ≡ offset
offset_again offset is = ap (signed 25) (long_again (lowest 25 offset) is.small is.even) ∙ is.again

call_of : (offset : ℤ) → is_even offset ≡ true → is_signed 25 offset ≡ true → IsCoded (instr.Call (record { offset = offset }))
unfolding full_rows
call_of offset even e =
    let is = lowest_25 offset even e in
    let z = lowest 25 offset in
    let small = is.small in
    coded 13 (z / 2 ^ 24, (z / 2 ^ 12 % 2 ^ 10, (one_if (z / 2 ^ 23 % 2 == z / 2 ^ 24), (one_if (z / 2 ^ 22 % 2 == z / 2 ^ 24), (z / 2 % 2 ^ 11, tt))))) _ refl refl
    (omega arith, (omega arith, (one_bit _, (one_bit _, (omega arith, tt)))))
    (rw (offset_again offset is) (taken (is_even offset) _ even))

always_of : (offset : ℤ) → is_even offset ≡ true → is_signed 25 offset ≡ true → IsCoded (instr.Branch (record { cond = Al; offset = offset }))
unfolding full_rows
always_of offset even e =
    let is = lowest_25 offset even e in
    let z = lowest 25 offset in
    let small = is.small in
    coded 12 (z / 2 ^ 24, (z / 2 ^ 12 % 2 ^ 10, (one_if (z / 2 ^ 23 % 2 == z / 2 ^ 24), (one_if (z / 2 ^ 22 % 2 == z / 2 ^ 24), (z / 2 % 2 ^ 11, tt))))) _ refl refl
    (omega arith, (omega arith, (one_bit _, (one_bit _, (omega arith, tt)))))
    (rw (offset_again offset is) (taken (is_even offset) _ even))

-- B, T3: the row with its condition fixed, since others stand where it would be 14

abbrev pub near : ℕ → List Bits
near c = Fixed 5 30 ∷ Field 1 ∷ Fixed 4 c ∷ Field 6 ∷ Fixed 2 2 ∷ Field 1 ∷ Fixed 1 0 ∷ Field 1 ∷ Field 11 ∷ []

near_leads : (c : Cond) → is_always c ≡ false → Leads (full_row 22) (rows_like (near (condition_number c)))
unfolding full_rows
near_leads Al e = absurd (cc)
near_leads c e = refl

whole_21 : (z : ℕ) → z < 2 ^ 21 → z % 2 ≡ 0 → 2 ^ 20 * (z / 2 ^ 20) + 2 ^ 19 * (z / 2 ^ 19 % 2) + 2 ^ 18 * (z / 2 ^ 18 % 2) + 2 ^ 12 * (z / 2 ^ 12 % 2 ^ 6) + 2 * (z / 2 % 2 ^ 11) ≡ z
whole_21 z small even = omega arith

near_takes : (c : Cond) (z : ℕ) (offset : ℤ) → is_always c ≡ false → signed 21 z ≡ offset → is_even offset ≡ true → on_condition_branch Outside (condition_number c) z ≡ Ok (instr.Branch (record { cond = c; offset = offset }))
unfolding on_condition_branch
near_takes Al z offset e is even = absurd (cc)
near_takes c z offset e is even = rw is (taken (is_even offset) _ even)

near_is_pattern : (c : Cond) → is_pattern (near (condition_number c)) ≡ true
near_is_pattern Al = refl
near_is_pattern c = refl

near_of : (c : Cond) (offset : ℤ) → is_always c ≡ false → is_even offset ≡ true → is_signed 21 offset ≡ true → IsCoded (instr.Branch (record { cond = c; offset = offset }))
unfolding full_rows
near_of c offset sometimes even e =
    let is = lowest_21 offset even e in
    let z = lowest 21 offset in
    let small = is.small in
    let k = condition_number c in
    coded_behind (near k) (z / 2 ^ 20, (z / 2 ^ 12 % 2 ^ 6, (z / 2 ^ 18 % 2, (z / 2 ^ 19 % 2, (z / 2 % 2 ^ 11, tt))))) _ (near_is_pattern c)
    (omega arith, (omega arith, (omega arith, (omega arith, (omega arith, tt)))))
    (λ h cuts. first_answers (rows_like (near k)) (full_row 22) (z / 2 ^ 20, (k, (z / 2 ^ 12 % 2 ^ 6, (z / 2 ^ 18 % 2, (z / 2 ^ 19 % 2, (z / 2 % 2 ^ 11, tt)))))) h (near_leads c sometimes) cuts
    ∙ near_takes c _ offset sometimes (ap (signed 21) (whole_21 z is.small is.even) ∙ is.again) even)

branch_of : (c : Cond) (offset : ℤ) → is_even offset ≡ true → is_signed (if is_always c then 25 else 21) offset ≡ true → IsCoded (instr.Branch (record { cond = c; offset = offset }))
branch_of Al offset even e = always_of offset even e
branch_of c offset even e = near_of c offset refl even e

pub branch_coded : (i : BranchFields) → IsGiven (instr.Branch i) → has_full (instr.Branch i) ≡ true → IsCoded (instr.Branch i)
unfolding has_full
branch_coded i f e = branch_of i.cond i.offset f.fields e

pub call_coded : (i : CallFields) → IsGiven (instr.Call i) → has_full (instr.Call i) ≡ true → IsCoded (instr.Call i)
unfolding has_full
call_coded i f e = call_of i.offset f.fields e
