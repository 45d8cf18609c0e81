-- Each number of 32 bits that stands for an instruction is its only candidate.
use Rattle.std.proofs.Common.{◌≡◌, ℕ, ◌+◌, ◌*◌, ◌/◌, ◌%◌, ◌^◌, ◌<◌, true, false, [], ◌∷◌, refl, ap, sym, ◌∙◌, subst, arith, Ok, Some, ◌==◌, slice_get}
use Rattle.thumb_instr.specs.declared.operations.UnaryOp.TheVariants.{Sxth, Sxtb, Uxth, Uxtb, Rev, Rev16, Revsh, Rbit, Clz}
use Rattle.thumb_instr.specs.declared.operations.WideOp.TheVariants.{Add, Sub}
use Rattle.thumb_instr.specs.declared.operands.Operand.TheVariants.{Imm}
use Rattle.thumb_instr.specs.declared.places.Place.TheVariants.{Offset}
use Rattle.thumb_instr.specs.declared.instructions.Instr.{Instr}
use Rattle.thumb_instr.specs.declared.refusals.ItPlace.TheVariants.{Outside}
use Rattle.thumb_instr.specs.Patterns.{cut, decoded}
use Rattle.thumb_instr.specs.DataRows.{shifted, data_processing}
use Rattle.thumb_instr.specs.FullRows.{full_rows, accesses, shift_of}
use Rattle.thumb_encode.specs.HalfCodes.{shift_number}
use Rattle.mark_word.specs.Formulas.{one_if}
use Rattle.thumb_encode.specs.FullCodes.{full_code, full_number, access_number, access_row_number}
use Rattle.thumb_encode.proofs.Covering.{OfAnswer, OfRows, done, ◌&◌, of_table, of_when}
use Rattle.thumb_encode.proofs.FullFields.{full_number-cut, split_number-cut, shifted_number-cut, bit-of, data_code-shifted, access_number-get, shift_number-of}
use Rattle.thumb_encode.proofs.DataCovering.{IsOnly, data_processing-makes}
use Rattle.thumb_encode.proofs.FullMeanings.{of_plain, of_access, many-covers, dual-covers, wide_row-covers, insert-covers, sbfx-covers, ubfx-covers, far_branch-covers, near_branch-covers, on_condition_branch-covers, access_row-covers, by_register-covers, access_row_number-cut, by_byte-covers, product-covers, extension-covers, order-covers}

-- several registers: p m 0 list
many_number : (o c : ℕ) → c < 2 ^ 32 → cut c 32 10 ≡ o → cut c 14 1 ≡ 0
    → full_number (2 ^ 2 * o + 2 * one_if (cut c 22 1 == 1) + one_if (cut c 21 1 == 1)) (cut c 20 4)
    (2 ^ 3 * one_if (cut c 16 1 == 1) + 2 ^ 2 * ((2 ^ 14 * cut c 15 1 + cut c 13 13) / 2 ^ 14 % 2) + (2 ^ 14 * cut c 15 1 + cut c 13 13) / 2 ^ 12 % 2)
    ((2 ^ 14 * cut c 15 1 + cut c 13 13) / 2 ^ 8 % 16) ((2 ^ 14 * cut c 15 1 + cut c 13 13) % 2 ^ 8) ≡ c
many_number o c small top zeros =
    let load = bit-of (cut c 21 1) (omega arith) in
    let back = bit-of (cut c 22 1) (omega arith) in
    let pc = bit-of (cut c 16 1) (omega arith) in
    full_number-cut _ _ _ _ _ c small (omega arith) refl (omega arith) (omega arith) (omega arith)

-- a register that is shifted
shifted-covers : (c : ℕ) → c < 2 ^ 32 → cut c 32 7 ≡ 117 → cut c 16 1 ≡ 0
    → OfAnswer (IsOnly c) (data_processing (cut c 25 4) (cut c 21 1 == 1) (cut c 20 4) (cut c 12 4) (shifted (cut c 4 4) (cut c 6 2) (4 * cut c 15 3 + cut c 8 2)))
shifted-covers c small top zeros =
    let s = bit-of (cut c 21 1) (omega arith) in
    data_processing-makes (cut c 25 4) (cut c 21 1 == 1) (cut c 20 4) (cut c 12 4) (shifted (cut c 4 4) (cut c 6 2) (4 * cut c 15 3 + cut c 8 2)) c
    (data_code-shifted (cut c 25 4) (cut c 21 1 == 1) (cut c 20 4) (cut c 12 4) (cut c 4 4) (cut c 6 2) (4 * cut c 15 3 + cut c 8 2) (omega arith)
    ∙ shifted_number-cut (2 ^ 5 * 117 + 2 * cut c 25 4 + one_if (cut c 21 1 == 1)) (cut c 20 4) (cut c 12 4) (4 * cut c 15 3 + cut c 8 2) (2 ^ 4 * cut c 6 2 + cut c 4 4) c small
    (omega arith) refl zeros refl refl (omega arith))

constant-covers : (c : ℕ) → c < 2 ^ 32 → cut c 32 5 ≡ 30 → cut c 26 1 ≡ 0 → cut c 16 1 ≡ 0
    → OfAnswer (IsOnly c) (data_processing (cut c 25 4) (cut c 21 1 == 1) (cut c 20 4) (cut c 12 4) (Imm (2048 * cut c 27 1 + 256 * cut c 15 3 + cut c 8 8)))
constant-covers c small top zero zeros =
    let s = bit-of (cut c 21 1) (omega arith) in
    data_processing-makes (cut c 25 4) (cut c 21 1 == 1) (cut c 20 4) (cut c 12 4) (Imm (2048 * cut c 27 1 + 256 * cut c 15 3 + cut c 8 8)) c
    (split_number-cut (2 * cut c 25 4 + one_if (cut c 21 1 == 1)) (cut c 20 4) (cut c 12 4) (2048 * cut c 27 1 + 256 * cut c 15 3 + cut c 8 8) c small top (omega arith) refl zeros refl refl)

whole : (c o : ℕ) → c < 2 ^ 32 → cut c 32 32 ≡ o → o ≡ c
whole c o small is = omega arith

barrier : (o c : ℕ) → c < 2 ^ 32 → cut c 32 28 ≡ o → 2 ^ 4 * o + cut c 4 4 ≡ c
barrier o c small is = omega arith

literal_number : (c : ℕ) → c < 2 ^ 32 → cut c 32 8 ≡ 0xF8 → cut c 23 7 ≡ 95
    → full_number (2 ^ 4 * 0xF8 + 2 ^ 3 * one_if (cut c 24 1 == 1) + 5) 15 (cut c 16 4) (cut c 12 12 / 2 ^ 8) (cut c 12 12 % 2 ^ 8) ≡ c
literal_number c small top ones =
    let up = bit-of (cut c 24 1) (omega arith) in
    full_number-cut _ _ _ _ _ c small (omega arith) (omega arith) refl (omega arith) (omega arith)

offset_number : (c k : ℕ) → c < 2 ^ 32 → cut c 32 7 ≡ 124 → cut c 24 1 ≡ 1 → k ≡ 8 * cut c 25 1 + 2 * cut c 23 2 + cut c 21 1
    → full_number (access_row_number k + 8) (cut c 20 4) (cut c 16 4) (cut c 12 12 / 2 ^ 8 % 16) (cut c 12 12 % 2 ^ 8) ≡ c
offset_number c k small top one is =
    let row = access_row_number-cut c k small top is in
    full_number-cut _ _ _ _ _ c small (omega arith) refl refl (omega arith) (omega arith)

index_number : (c k : ℕ) → c < 2 ^ 32 → cut c 32 7 ≡ 124 → cut c 24 1 ≡ 0 → cut c 12 6 ≡ 0 → k ≡ 8 * cut c 25 1 + 2 * cut c 23 2 + cut c 21 1
    → full_number (access_row_number k) (cut c 20 4) (cut c 16 4) 0 (2 ^ 4 * (cut c 6 2 % 4) + cut c 4 4) ≡ c
index_number c k small top zero zeros is =
    let row = access_row_number-cut c k small top is in
    full_number-cut _ _ _ _ _ c small (omega arith) refl refl (omega arith) (omega arith)

shift_row : (c : ℕ) → c < 2 ^ 32 → cut c 32 9 ≡ 500 → cut c 16 4 ≡ 15 → cut c 8 4 ≡ 0
    → full_number (2 ^ 3 * 500 + 2 * shift_number (shift_of (cut c 23 2)) + one_if (cut c 21 1 == 1)) (cut c 20 4) 15 (cut c 12 4) (cut c 4 4) ≡ c
shift_row c small top ones zeros =
    let s = bit-of (cut c 21 1) (omega arith) in
    let kind = shift_number-of (cut c 23 2) (omega arith) in
    full_number-cut _ _ _ _ _ c small (omega arith) refl (omega arith) refl (omega arith)

extension_number : (o c : ℕ) → c < 2 ^ 32 → cut c 32 16 ≡ 16 * o + 15 → cut c 16 4 ≡ 15 → cut c 8 2 ≡ 2
    → full_number o 15 15 (cut c 12 4) (2 ^ 7 + 2 ^ 4 * (8 * cut c 6 2 / 8 % 4) + cut c 4 4) ≡ c
extension_number o c small top ones two = full_number-cut _ _ _ _ _ c small (omega arith) (omega arith) (omega arith) refl (omega arith)

order_number : (o kind c : ℕ) → c < 2 ^ 32 → cut c 32 12 ≡ o → cut c 16 4 ≡ 15 → cut c 8 4 ≡ kind → cut c 4 4 ≡ cut c 20 4
    → full_number o (cut c 4 4) 15 (cut c 12 4) (2 ^ 4 * kind + cut c 4 4) ≡ c
order_number o kind c small top ones is same = full_number-cut _ _ _ _ _ c small (sym top) same (omega arith) refl (omega arith)

plain_number : (o c : ℕ) → c < 2 ^ 32 → cut c 32 12 ≡ o → cut c 8 4 ≡ 0 → full_number o (cut c 20 4) (cut c 16 4) (cut c 12 4) (cut c 4 4) ≡ c
plain_number o c small top zeros = full_number-cut _ _ _ _ _ c small (sym top) refl refl refl (omega arith)

added_number : (c : ℕ) → c < 2 ^ 32 → cut c 32 12 ≡ 0xFB0 → cut c 8 4 ≡ 1 → full_number 0xFB0 (cut c 20 4) (cut c 16 4) (cut c 12 4) (2 ^ 4 * 1 + cut c 4 4) ≡ c
added_number c small top one = full_number-cut _ _ _ _ _ c small (sym top) refl refl refl (omega arith)

quotient_number : (o c : ℕ) → c < 2 ^ 32 → cut c 32 12 ≡ o → cut c 16 4 ≡ 15 → cut c 8 4 ≡ 15 → full_number o (cut c 20 4) 15 (cut c 12 4) (2 ^ 4 * 15 + cut c 4 4) ≡ c
quotient_number o c small top ones again = full_number-cut _ _ _ _ _ c small (sym top) refl (omega arith) refl (omega arith)

-- what each row answers
each_row : (c : ℕ) → c < 2 ^ 32 → OfRows (IsOnly c) 32 c (full_rows Outside)
unfolding full_rows full_code
each_row c small = let P : Instr → Type 0 = IsOnly c in
    (λ f. many-covers c (cut c 21 1 == 1) false (cut c 22 1 == 1) (cut c 20 4) (2 ^ 14 * cut c 15 1 + cut c 13 13) (cut c 16 1 == 1) (many_number 930 c small f.0 f.1.0))
    & (λ f. many-covers c (cut c 21 1 == 1) true (cut c 22 1 == 1) (cut c 20 4) (2 ^ 14 * cut c 15 1 + cut c 13 13) (cut c 16 1 == 1) (many_number 932 c small f.0 f.1.0))
    & (λ f. dual-covers c small f.0 f.1.0)
    & (λ f. shifted-covers c small f.0 f.1.0)
    & (λ f. constant-covers c small f.0 f.1.0 f.1.1.0)
    & (λ f. wide_row-covers c Add true (cut c 20 4) (cut c 12 4) (2048 * cut c 27 1 + 256 * cut c 15 3 + cut c 8 8) refl (split_number-cut 32 (cut c 20 4) (cut c 12 4) _ c small f.0 (sym f.1.0) refl f.1.1.0 refl refl))
    & (λ f. wide_row-covers c Sub false (cut c 20 4) (cut c 12 4) (2048 * cut c 27 1 + 256 * cut c 15 3 + cut c 8 8) refl (split_number-cut 42 (cut c 20 4) (cut c 12 4) _ c small f.0 (sym f.1.0) refl f.1.1.0 refl refl))
    & (λ f. of_plain c (cut c 12 4 ∷ []) _ (ap Some (split_number-cut 36 _ (cut c 12 4) _ c small f.0 (sym f.1.0) (omega arith) f.1.1.0 refl (omega arith))))
    & (λ f. of_plain c (cut c 12 4 ∷ []) _ (ap Some (split_number-cut 44 _ (cut c 12 4) _ c small f.0 (sym f.1.0) (omega arith) f.1.1.0 refl (omega arith))))
    & (λ f. sbfx-covers c (cut c 20 4) (cut c 12 4) (4 * cut c 15 3 + cut c 8 2) (cut c 5 5) (shifted_number-cut 0xF34 _ _ _ _ c small (sym f.0) refl f.1.0 refl refl (omega arith)))
    & (λ f. ubfx-covers c (cut c 20 4) (cut c 12 4) (4 * cut c 15 3 + cut c 8 2) (cut c 5 5) (shifted_number-cut 0xF3C _ _ _ _ c small (sym f.0) refl f.1.0 refl refl (omega arith)))
    & (λ f. insert-covers c (cut c 20 4) (cut c 12 4) (4 * cut c 15 3 + cut c 8 2) (cut c 5 5) (shifted_number-cut 0xF36 _ _ _ _ c small (sym f.0) refl f.1.0 refl refl (omega arith)))
    & (λ f. of_when P _ _ (ap Some (far_branch-covers 2 c small f.0 f.1.0 f.1.1.0)))
    & (λ f. of_when P _ _ (ap Some (far_branch-covers 3 c small f.0 f.1.0 f.1.1.0)))
    & (λ f. ap Some (whole c _ small f.0))
    & (λ f. tt)
    & (λ f. of_when P _ _ (ap Some (barrier 0xF3BF8F4 c small f.0)))
    & (λ f. of_when P _ _ (ap Some (barrier 0xF3BF8F5 c small f.0)))
    & (λ f. of_when P _ _ (ap Some (barrier 0xF3BF8F6 c small f.0)))
    & (λ f. tt)
    & (λ f. tt)
    & (λ f. tt)
    & (λ f. on_condition_branch-covers c (cut c 26 4) _ (near_branch-covers c small f.0 f.1.0 f.1.1.0))
    & (λ f. of_plain c (cut c 16 4 ∷ []) _ (of_when P _ _ (ap Some (literal_number c small f.0 f.1.0))))
    & (λ f. of_when P _ _ (ap Some (whole c _ small f.0)))
    & (λ f. of_access P (slice_get accesses (8 * cut c 25 1 + 2 * cut c 23 2 + cut c 21 1)) _ (λ op got.
    access_row-covers c op (cut c 16 4) (cut c 20 4) (Offset true (cut c 12 12)) false
    (offset_number c (access_number op) small f.0 f.1.0 (access_number-get (8 * cut c 25 1 + 2 * cut c 23 2 + cut c 21 1) op got))))
    & (λ f. of_access P (slice_get accesses (8 * cut c 25 1 + 2 * cut c 23 2 + cut c 21 1)) _ (λ op got.
    by_byte-covers c op small f.0 f.1.0 f.1.1.0 (access_number-get (8 * cut c 25 1 + 2 * cut c 23 2 + cut c 21 1) op got)))
    & (λ f. of_access P (slice_get accesses (8 * cut c 25 1 + 2 * cut c 23 2 + cut c 21 1)) _ (λ op got.
    by_register-covers c op (cut c 16 4) (cut c 20 4) (cut c 6 2) (cut c 4 4)
    (index_number c (access_number op) small f.0 f.1.0 f.1.1.0 (access_number-get (8 * cut c 25 1 + 2 * cut c 23 2 + cut c 21 1) op got))))
    & (λ f. of_plain c (cut c 12 4 ∷ cut c 20 4 ∷ cut c 4 4 ∷ []) _ (of_when P _ _ (ap Some (shift_row c small f.0 f.1.0 f.1.1.0))))
    & (λ f. extension-covers c (cut c 12 4) (8 * cut c 6 2) (cut c 4 4) Sxth (ap Some (extension_number 0xFA0 c small f.0 f.1.0 f.1.1.0)))
    & (λ f. extension-covers c (cut c 12 4) (8 * cut c 6 2) (cut c 4 4) Uxth (ap Some (extension_number 0xFA1 c small f.0 f.1.0 f.1.1.0)))
    & (λ f. extension-covers c (cut c 12 4) (8 * cut c 6 2) (cut c 4 4) Sxtb (ap Some (extension_number 0xFA4 c small f.0 f.1.0 f.1.1.0)))
    & (λ f. extension-covers c (cut c 12 4) (8 * cut c 6 2) (cut c 4 4) Uxtb (ap Some (extension_number 0xFA5 c small f.0 f.1.0 f.1.1.0)))
    & (λ f. order-covers c (cut c 20 4) (cut c 12 4) (cut c 4 4) Rev (λ same. ap Some (order_number 0xFA9 8 c small f.0 f.1.0 f.1.1.0 same)))
    & (λ f. order-covers c (cut c 20 4) (cut c 12 4) (cut c 4 4) Rev16 (λ same. ap Some (order_number 0xFA9 9 c small f.0 f.1.0 f.1.1.0 same)))
    & (λ f. order-covers c (cut c 20 4) (cut c 12 4) (cut c 4 4) Rbit (λ same. ap Some (order_number 0xFA9 10 c small f.0 f.1.0 f.1.1.0 same)))
    & (λ f. order-covers c (cut c 20 4) (cut c 12 4) (cut c 4 4) Revsh (λ same. ap Some (order_number 0xFA9 11 c small f.0 f.1.0 f.1.1.0 same)))
    & (λ f. order-covers c (cut c 20 4) (cut c 12 4) (cut c 4 4) Clz (λ same. ap Some (order_number 0xFAB 8 c small f.0 f.1.0 f.1.1.0 same)))
    & (λ f. product-covers c (cut c 20 4) (cut c 16 4) (cut c 12 4) (cut c 4 4) (plain_number 0xFB0 c small f.0 f.1.0))
    & (λ f. of_plain c (cut c 12 4 ∷ cut c 20 4 ∷ cut c 4 4 ∷ cut c 16 4 ∷ []) _ (ap Some (added_number c small f.0 f.1.0)))
    & (λ f. of_plain c (cut c 16 4 ∷ cut c 12 4 ∷ cut c 20 4 ∷ cut c 4 4 ∷ []) _ (of_when P _ _ (ap Some (plain_number 0xFB8 c small f.0 f.1.0))))
    & (λ f. of_plain c (cut c 16 4 ∷ cut c 12 4 ∷ cut c 20 4 ∷ cut c 4 4 ∷ []) _ (of_when P _ _ (ap Some (plain_number 0xFBA c small f.0 f.1.0))))
    & (λ f. of_plain c (cut c 16 4 ∷ cut c 12 4 ∷ cut c 20 4 ∷ cut c 4 4 ∷ []) _ (of_when P _ _ (ap Some (plain_number 0xFBC c small f.0 f.1.0))))
    & (λ f. of_plain c (cut c 16 4 ∷ cut c 12 4 ∷ cut c 20 4 ∷ cut c 4 4 ∷ []) _ (of_when P _ _ (ap Some (plain_number 0xFBE c small f.0 f.1.0))))
    & (λ f. of_plain c (cut c 12 4 ∷ cut c 20 4 ∷ cut c 4 4 ∷ []) _ (ap Some (quotient_number 0xFB9 c small f.0 f.1.0 f.1.1.0)))
    & (λ f. of_plain c (cut c 12 4 ∷ cut c 20 4 ∷ cut c 4 4 ∷ []) _ (ap Some (quotient_number 0xFBB c small f.0 f.1.0 f.1.1.0)))
    & done

-- every number that stands for an instruction
pub full_candidate : (c : ℕ) (i : Instr) → c < 2 ^ 32 → decoded 32 (full_rows Outside) c ≡ Ok i → IsOnly c i
full_candidate c i small is = subst (OfAnswer (IsOnly c)) is (of_table (IsOnly c) 32 c 0 (full_rows Outside) (each_row c small))
