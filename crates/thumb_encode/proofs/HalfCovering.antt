-- Each number of 16 bits that stands for an instruction is one of its two candidates.
use Rattle.std.proofs.Common.{◌≡◌, ℕ, ◌+◌, ◌*◌, ◌/◌, ◌%◌, ◌^◌, ◌<◌, ◌⊎◌, inl, inr, false, refl, ap, sym, ◌∙◌, subst, arith, Ok, Some, nat_lt, not, ◌||◌, ◌&&◌, ◌==◌, slice_get}
use Rattle.std.proofs.lemmas.Bool.{eqb-true}
use Rattle.thumb_instr.specs.declared.conditions.Cond.{Cond}
use Rattle.thumb_instr.specs.declared.instructions.Instr.{Instr}
use Rattle.thumb_instr.specs.declared.refusals.ItPlace.TheVariants.{Outside}
use Rattle.thumb_instr.specs.Operands.{has}
use Rattle.thumb_instr.specs.Patterns.{cut, decoded}
use Rattle.thumb_instr.specs.Meanings.{conditions, zero_as_32, constant_of}
use Rattle.thumb_instr.specs.HalfRows.{half_rows, high_add, high_move, high_compare, hint, is_one_bit, if_then, short_branch}
use Rattle.thumb_instr.specs.Blocks.{condition_number}
use Rattle.thumb_encode.specs.HalfCodes.{half_code, later_code, two_registers, high_registers, quarter_of, word_of, compare_registers}
use Rattle.thumb_encode.proofs.Covering.{OfAnswer, OfRows, done, ◌&◌, of_table, of_when, of_unless, of_either, of_condition, if_true, if_false}
use Rattle.thumb_encode.proofs.Fields.{two_registers-cut, three_registers-cut, five_bits-cut, eight_bits-cut, high_registers-cut, zero_as_32-again, quarter_of-constant_of, condition_number-get, word_of-signed_9, word_of-signed_12, bit-again, is_13-low, is_below_8}

-- one of the two
abbrev pub IsCandidate : ℕ → Instr → Type 0
IsCandidate c i = (half_code i ≡ Some c) ⊎ (later_code i ≡ Some c)

compare-low : (n m c : ℕ) → n < 8 → m < 8 → two_registers 266 m n ≡ c → compare_registers n m ≡ c
compare-low n m c low_n low_m is = if_true (nat_lt n 8 && nat_lt m 8) _ _ (rw (is_below_8 n low_n, is_below_8 m low_m) refl) ∙ is

add_row : (c d m : ℕ) → high_registers 68 m d ≡ c → OfAnswer (IsCandidate c) (high_add d m)
unfolding half_code
add_row c d m is = of_unless (IsCandidate c) ((d == 15) || (m == 15)) _ _ (λ _. of_unless (IsCandidate c) ((d == 13) && (m == 13)) _ _ (λ _. inl (ap Some is)))

move_row : (c d m : ℕ) → high_registers 70 m d ≡ c → OfAnswer (IsCandidate c) (high_move d m)
unfolding half_code
move_row c d m is = of_unless (IsCandidate c) ((d == 15) || (m == 15)) _ _ (λ _. of_unless (IsCandidate c) ((d == 13) && (m == 13)) _ _ (λ _. inl (ap Some is)))

compare_row : (c n m : ℕ) → high_registers 69 m n ≡ c → OfAnswer (IsCandidate c) (high_compare n m)
unfolding half_code
compare_row c n m is = of_unless (IsCandidate c) ((n == 15) || (m == 15)) _ _ (λ _. of_unless (IsCandidate c) (nat_lt n 8 && nat_lt m 8) _ _ (λ high.
    inl (ap Some (if_false (nat_lt n 8 && nat_lt m 8) _ _ high ∙ is))))

jump-cut : (o c : ℕ) → c < 2 ^ 16 → cut c 16 9 ≡ o → cut c 3 3 ≡ 0 → 128 * o + 8 * (cut c 7 4 % 16) ≡ c
jump-cut o c small is zeros = omega arith

hint_row : (c : ℕ) → c < 2 ^ 16 → cut c 16 8 ≡ 191 → cut c 4 4 ≡ 0 → OfAnswer (IsCandidate c) (hint (cut c 8 4))
unfolding half_code
hint_row c small is zeros = of_either (IsCandidate c) (cut c 8 4 == 0) _ _
    (λ first. inl (ap Some (omega (arith, eqb-true (cut c 8 4) 0 first))))
    (λ _. of_either (IsCandidate c) (nat_lt (cut c 8 4) 5) _ _ (λ _. tt) (λ _. tt))

it_row : (c : ℕ) → c < 2 ^ 16 → cut c 16 8 ≡ 191 → OfAnswer (IsCandidate c) (if_then Outside (cut c 8 4) (cut c 4 4))
unfolding half_code
it_row c small is = of_unless (IsCandidate c) ((cut c 8 4 == 14) && not (is_one_bit (cut c 4 4))) _ _ (λ _. of_condition (IsCandidate c) _ _ (λ (first : Cond) (got : slice_get conditions (cut c 8 4) ≡ Some first). of_when (IsCandidate c) _ _
    (let same : 0xBF00 + 16 * condition_number first + cut c 4 4 % 16 ≡ c = omega (arith, condition_number-get (cut c 8 4) first got) in
    inl (ap Some same))))

branch_row : (c : ℕ) → c < 2 ^ 16 → cut c 16 4 ≡ 13 → OfAnswer (IsCandidate c) (short_branch Outside (cut c 12 4) (cut c 8 8))
unfolding half_code
branch_row c small is =
    of_either (IsCandidate c) (cut c 12 4 == 14) _ _
    (λ trap. of_when (IsCandidate c) _ _ (inl (ap Some (omega (arith, eqb-true (cut c 12 4) 14 trap)))))
    (λ other. of_either (IsCandidate c) (cut c 12 4 == 15) _ _
    (λ _. tt)
    (λ _. of_condition (IsCandidate c) _ _ (λ x got. of_when (IsCandidate c) _ _
    (let same = condition_number-get (cut c 12 4) x got in
    let P : ℕ → Type 0 = λ k. (k == 14) ≡ false in
    inl (ap Some (if_false (condition_number x == 14) _ _ (subst P (sym same) other) ∙ omega (arith, same, word_of-signed_9 (2 * cut c 8 8) (omega arith))))))))

-- what each row answers
each_row : (c : ℕ) → c < 2 ^ 16 → OfRows (IsCandidate c) 16 c (half_rows Outside)
unfolding half_rows half_code later_code word_of
each_row c small = let P : Instr → Type 0 = IsCandidate c in
    (λ f. of_unless P (cut c 11 5 == 0 && false) _ _ (λ _. of_when P _ _ (inl (ap Some (five_bits-cut 0 c (cut c 11 5) small f.0 (omega arith))))))
    & (λ f. of_when P _ _ (inl (ap Some (five_bits-cut 1 c (zero_as_32 (cut c 11 5)) small f.0 (zero_as_32-again (cut c 11 5) (omega arith))))))
    & (λ f. of_when P _ _ (inl (ap Some (five_bits-cut 2 c (zero_as_32 (cut c 11 5)) small f.0 (zero_as_32-again (cut c 11 5) (omega arith))))))
    & (λ f. inl (ap Some (three_registers-cut 12 c small f.0)))
    & (λ f. inl (ap Some (three_registers-cut 13 c small f.0)))
    & (λ f. of_when P _ _ (inl (ap Some (three_registers-cut 14 c small f.0))))
    & (λ f. of_when P _ _ (inl (ap Some (three_registers-cut 15 c small f.0))))
    & (λ f. of_when P _ _ (inl (ap Some (eight_bits-cut 4 c (cut c 8 8) small f.0 (omega arith)))))
    & (λ f. of_when P _ _ (inl (ap Some (eight_bits-cut 5 c (cut c 8 8) small f.0 (omega arith)))))
    & (λ f. of_when P _ _ (inr (ap Some (eight_bits-cut 6 c (cut c 8 8) small f.0 (omega arith)))))
    & (λ f. of_when P _ _ (inr (ap Some (eight_bits-cut 7 c (cut c 8 8) small f.0 (omega arith)))))
    & (λ f. inl (ap Some (two_registers-cut 256 c small f.0)))
    & (λ f. inl (ap Some (two_registers-cut 257 c small f.0)))
    & (λ f. inl (ap Some (two_registers-cut 258 c small f.0)))
    & (λ f. inl (ap Some (two_registers-cut 259 c small f.0)))
    & (λ f. inl (ap Some (two_registers-cut 260 c small f.0)))
    & (λ f. tt)
    & (λ f. tt)
    & (λ f. inl (ap Some (two_registers-cut 263 c small f.0)))
    & (λ f. inl (ap Some (two_registers-cut 264 c small f.0)))
    & (λ f. inl (ap Some (two_registers-cut 265 c small f.0)))
    & (λ f. inl (ap Some (compare-low (cut c 3 3) (cut c 6 3) c (omega arith) (omega arith) (two_registers-cut 266 c small f.0))))
    & (λ f. inl (ap Some (two_registers-cut 267 c small f.0)))
    & (λ f. inl (ap Some (two_registers-cut 268 c small f.0)))
    & (λ f. inl (ap Some (two_registers-cut 269 c small f.0)))
    & (λ f. inl (ap Some (two_registers-cut 270 c small f.0)))
    & (λ f. inl (ap Some (two_registers-cut 271 c small f.0)))
    & (λ f. add_row c (8 * cut c 8 1 + cut c 3 3) (cut c 7 4) (high_registers-cut 68 c small f.0))
    & (λ f. compare_row c (8 * cut c 8 1 + cut c 3 3) (cut c 7 4) (high_registers-cut 69 c small f.0))
    & (λ f. move_row c (8 * cut c 8 1 + cut c 3 3) (cut c 7 4) (high_registers-cut 70 c small f.0))
    & (λ f. of_unless P (cut c 7 4 == 15) _ _ (λ _. inl (ap Some (jump-cut 142 c small f.0 f.1.0))))
    & (λ f. of_unless P (cut c 7 4 == 15) _ _ (λ _. inl (ap Some (jump-cut 143 c small f.0 f.1.0))))
    & (λ f. of_when P _ _ (inl (ap Some (eight_bits-cut 9 c (4 * cut c 8 8 / 4) small f.0 (omega arith)))))
    & (λ f. inl (ap Some (three_registers-cut 40 c small f.0)))
    & (λ f. inl (ap Some (three_registers-cut 41 c small f.0)))
    & (λ f. inl (ap Some (three_registers-cut 42 c small f.0)))
    & (λ f. inl (ap Some (three_registers-cut 43 c small f.0)))
    & (λ f. inl (ap Some (three_registers-cut 44 c small f.0)))
    & (λ f. inl (ap Some (three_registers-cut 45 c small f.0)))
    & (λ f. inl (ap Some (three_registers-cut 46 c small f.0)))
    & (λ f. inl (ap Some (three_registers-cut 47 c small f.0)))
    & (λ f. inl (ap Some (if_false _ _ _ (is_13-low (cut c 6 3) (omega arith)) ∙ five_bits-cut 12 c (4 * cut c 11 5 / 4) small f.0 (omega arith))))
    & (λ f. inl (ap Some (if_false _ _ _ (is_13-low (cut c 6 3) (omega arith)) ∙ five_bits-cut 13 c (4 * cut c 11 5 / 4) small f.0 (omega arith))))
    & (λ f. inl (ap Some (five_bits-cut 14 c (1 * cut c 11 5) small f.0 (omega arith))))
    & (λ f. inl (ap Some (five_bits-cut 15 c (1 * cut c 11 5) small f.0 (omega arith))))
    & (λ f. inl (ap Some (five_bits-cut 16 c (2 * cut c 11 5 / 2) small f.0 (omega arith))))
    & (λ f. inl (ap Some (five_bits-cut 17 c (2 * cut c 11 5 / 2) small f.0 (omega arith))))
    & (λ f. inl (ap Some (eight_bits-cut 18 c (4 * cut c 8 8 / 4) small f.0 (omega arith))))
    & (λ f. inl (ap Some (eight_bits-cut 19 c (4 * cut c 8 8 / 4) small f.0 (omega arith))))
    & (λ f. tt)
    & (λ f. of_when P _ _ (inl (ap Some (if_false _ _ _ (is_13-low (cut c 11 3) (omega arith))
    ∙ eight_bits-cut 21 c (quarter_of (constant_of (4 * cut c 8 8))) small f.0 (omega (arith, quarter_of-constant_of (cut c 8 8) (omega arith)))))))
    & (λ f. of_when P _ _ (inl (ap Some (omega (arith, quarter_of-constant_of (cut c 7 7) (omega arith))))))
    & (λ f. of_when P _ _ (inl (ap Some (omega (arith, quarter_of-constant_of (cut c 7 7) (omega arith))))))
    & (λ f. of_when P _ _ (inl (ap Some (omega (arith, bit-again (cut c 12 1) (omega arith))))))
    & (λ f. inl (ap Some (two_registers-cut 712 c small f.0)))
    & (λ f. inl (ap Some (two_registers-cut 713 c small f.0)))
    & (λ f. inl (ap Some (two_registers-cut 714 c small f.0)))
    & (λ f. inl (ap Some (two_registers-cut 715 c small f.0)))
    & (λ f. of_when P _ _ (inl (ap Some (omega arith))))
    & (λ f. of_unless P (cut c 9 1 == 1 && false) _ _ (λ _. of_when P _ _ (inl (ap Some (omega (arith, bit-again (cut c 9 1) (omega arith)))))))
    & (λ f. inl (ap Some (two_registers-cut 744 c small f.0)))
    & (λ f. inl (ap Some (two_registers-cut 745 c small f.0)))
    & (λ f. inl (ap Some (two_registers-cut 747 c small f.0)))
    & (λ f. of_either P (cut c 4 4 == 0) _ _ (λ zeros. hint_row c small f.0 (eqb-true (cut c 4 4) 0 zeros)) (λ _. it_row c small f.0))
    & (λ f. tt)
    & (λ f. tt)
    & (λ f. of_unless P (has (cut c 8 8) (cut c 11 3)) _ _ (λ _. of_when P _ _ (inl (ap Some (if_false _ _ _ (is_13-low (cut c 11 3) (omega arith)) ∙ eight_bits-cut 24 c (cut c 8 8 % 256) small f.0 (omega arith))))))
    & (λ f. of_when P _ _ (inl (ap Some (if_false _ _ _ (is_13-low (cut c 11 3) (omega arith)) ∙ eight_bits-cut 25 c (cut c 8 8 % 256) small f.0 (omega arith)))))
    & (λ f. branch_row c small f.0)
    & (λ f. of_when P _ _ (inl (ap Some (omega (arith, word_of-signed_12 (2 * cut c 11 11) (omega arith))))))
    & done

-- every number that stands for an instruction
pub half_candidate : (c : ℕ) (i : Instr) → c < 2 ^ 16 → decoded 16 (half_rows Outside) c ≡ Ok i → IsCandidate c i
half_candidate c i small is = subst (OfAnswer (IsCandidate c)) is (of_table (IsCandidate c) 16 c 0 (half_rows Outside) (each_row c small))
