-- Instructions that the test takes have a code of two halfwords: constants, fields of bits, branches and hints.
use Rattle.std.proofs.Common.{◌≡◌, ℕ, ◌+◌, ◌-◌, ◌*◌, ◌/◌, ◌%◌, ◌^◌, ◌<◌, ◌≤◌, Bool, true, false, [], ◌∷◌, refl, ap, sym, ◌∙◌, arith, Option, Some, None, Ok, ◌==◌, ◌&&◌, not, nat_lt, nat_le}
use Rattle.std.proofs.lemmas.Bool.{and_parts, eqb-true, ltb-true, leb-true}
use Rattle.std.proofs.lemmas.Bool.Decides.{nat_tests}
use Rattle.thumb_instr.specs.declared.operations.WideOp.{WideOp}
use Rattle.thumb_instr.specs.declared.operations.WideOp.TheVariants as wide
use Rattle.thumb_instr.specs.declared.operations.FieldOp.{FieldOp}
use Rattle.thumb_instr.specs.declared.operations.FieldOp.TheVariants.{Sbfx, Ubfx, Bfi, Bfc}
use Rattle.thumb_instr.specs.declared.operations.NothingOp.{NothingOp}
use Rattle.thumb_instr.specs.declared.operations.NothingOp.TheVariants.{Nop, Dmb, Dsb, Isb}
use Rattle.thumb_instr.specs.declared.instructions.Instr.{Instr}
use Rattle.thumb_instr.specs.declared.instructions.Instr.TheVariants as instr
use Rattle.thumb_instr.specs.Fields.{WideFields, HalfFields, FieldFields, LiteralFields, AdrFields, NothingFields}
use Rattle.thumb_instr.specs.Operands.{is_number_of_12_bits, has_source, is_field, takes_option}
use Rattle.thumb_instr.specs.FullRows.{full_rows, wide_row, extract, insert}
use Rattle.thumb_instr.specs.Formed.{IsSource}
use Rattle.mark_word.specs.Formulas.{one_if}
use Rattle.thumb_encode.specs.HasFull.{has_full, lacks_sp, source_of}
use Rattle.thumb_encode.proofs.Covering.{if_false}
use Rattle.thumb_encode.proofs.Putting.{IsGiven, IsCoded, coded}
use Rattle.thumb_encode.proofs.Coded.{four_bits, no_pc, one_bit, bit_again, not_true, taken, passed, plain_takes}
use Rattle.thumb_encode.proofs.CodedData.{in_three_parts}

-- ADDW, SUBW and ADR

wide_takes : (op : WideOp) (up : Bool) (n d imm : ℕ) → n ≤ 14 → d ≤ 14 → is_number_of_12_bits imm ≡ true → not ((d == 13) && not (n == 13)) ≡ true
    → wide_row op up n d imm ≡ Ok (instr.Wide (record { op = op; d = d; n = n; imm = imm }))
unfolding wide_row
wide_takes op up n d imm ln ld f e =
    if_false (n == 15) _ _ (no_pc n ln) ∙ passed _ _ _ _ (no_pc d ld) (passed _ _ _ _ (not_true ((d == 13) && not (n == 13)) e) (taken (is_number_of_12_bits imm) _ f))

adr_takes : (op : WideOp) (up : Bool) (d imm : ℕ) → d ≤ 14 → is_number_of_12_bits imm ≡ true → lacks_sp (d ∷ []) ≡ true → wide_row op up 15 d imm ≡ Ok (instr.Adr (record { d = d; up = up; imm = imm }))
unfolding wide_row
adr_takes op up d imm ld f e = plain_takes (d ∷ []) _ _ (ld, tt) e (taken (is_number_of_12_bits imm) _ f)

add_row : (n d imm : ℕ) (i : Instr) → n < 2 ^ 4 → d ≤ 14 → is_number_of_12_bits imm ≡ true → wide_row wide.Add true n d imm ≡ Ok i → IsCoded i
unfolding full_rows
add_row n d imm i ln ld f answer =
    let less = ltb-true imm 4096 f in
    coded 5 (imm / 2048, (n, (imm / 256 % 8, (d, (imm % 256, tt))))) i refl refl (omega arith, (ln, (omega arith, (four_bits d ld, (omega arith, tt)))))
    (ap (wide_row wide.Add true n d) (in_three_parts imm less) ∙ answer)

subtract_row : (n d imm : ℕ) (i : Instr) → n < 2 ^ 4 → d ≤ 14 → is_number_of_12_bits imm ≡ true → wide_row wide.Sub false n d imm ≡ Ok i → IsCoded i
unfolding full_rows
subtract_row n d imm i ln ld f answer =
    let less = ltb-true imm 4096 f in
    coded 6 (imm / 2048, (n, (imm / 256 % 8, (d, (imm % 256, tt))))) i refl refl (omega arith, (ln, (omega arith, (four_bits d ld, (omega arith, tt)))))
    (ap (wide_row wide.Sub false n d) (in_three_parts imm less) ∙ answer)

wide_of : (op : WideOp) (d n imm : ℕ) → d ≤ 14 → n ≤ 14 → is_number_of_12_bits imm ≡ true → not ((d == 13) && not (n == 13)) ≡ true → IsCoded (instr.Wide (record { op = op; d = d; n = n; imm = imm }))
wide_of wide.Add d n imm ld ln f e = add_row n d imm _ (four_bits n ln) ld f (wide_takes wide.Add true n d imm ln ld f e)
wide_of wide.Sub d n imm ld ln f e = subtract_row n d imm _ (four_bits n ln) ld f (wide_takes wide.Sub false n d imm ln ld f e)

pub wide_coded : (i : WideFields) → IsGiven (instr.Wide i) → has_full (instr.Wide i) ≡ true → IsCoded (instr.Wide i)
unfolding has_full
wide_coded i f e = wide_of i.op i.d i.n i.imm f.registers.0 f.registers.1 f.fields e

adr_of : (d : ℕ) (up : Bool) (imm : ℕ) → d ≤ 14 → is_number_of_12_bits imm ≡ true → lacks_sp (d ∷ []) ≡ true → IsCoded (instr.Adr (record { d = d; up = up; imm = imm }))
adr_of d true imm ld f e = add_row 15 d imm _ (omega arith) ld f (adr_takes wide.Add true d imm ld f e)
adr_of d false imm ld f e = subtract_row 15 d imm _ (omega arith) ld f (adr_takes wide.Sub false d imm ld f e)

pub adr_coded : (i : AdrFields) → IsGiven (instr.Adr i) → has_full (instr.Adr i) ≡ true → IsCoded (instr.Adr i)
unfolding has_full
adr_coded i f e = adr_of i.d i.up i.imm f.registers f.fields e

-- MOVW and MOVT

in_four_parts : (imm : ℕ) → 4096 * (imm / 4096) + 2048 * (imm / 2048 % 2) + 256 * (imm / 256 % 8) + imm % 256 ≡ imm
in_four_parts imm = omega arith

half_of : (top : Bool) (d imm : ℕ) → d ≤ 14 → lacks_sp (d ∷ []) ≡ true → nat_lt imm (2 ^ 16) ≡ true → IsCoded (instr.Half (record { top = top; d = d; imm = imm }))
unfolding full_rows
half_of false d imm ld e f =
    let less = ltb-true imm (2 ^ 16) f in
    coded 7 (imm / 2048 % 2, (imm / 4096, (imm / 256 % 8, (d, (imm % 256, tt))))) _ refl refl (omega arith, (omega arith, (omega arith, (four_bits d ld, (omega arith, tt)))))
    (plain_takes (d ∷ []) _ _ (ld, tt) e (ap (λ (k : ℕ). Ok (instr.Half (record { top = false; d = d; imm = k }))) (in_four_parts imm)))
half_of true d imm ld e f =
    let less = ltb-true imm (2 ^ 16) f in
    coded 8 (imm / 2048 % 2, (imm / 4096, (imm / 256 % 8, (d, (imm % 256, tt))))) _ refl refl (omega arith, (omega arith, (omega arith, (four_bits d ld, (omega arith, tt)))))
    (plain_takes (d ∷ []) _ _ (ld, tt) e (ap (λ (k : ℕ). Ok (instr.Half (record { top = true; d = d; imm = k }))) (in_four_parts imm)))

pub half_coded : (i : HalfFields) → IsGiven (instr.Half i) → has_full (instr.Half i) ≡ true → IsCoded (instr.Half i)
unfolding has_full
half_coded i f e = let both = and_parts (lacks_sp (i.d ∷ [])) (nat_lt i.imm (2 ^ 16)) e in half_of i.top i.d i.imm f.registers both.0 both.1

-- literals

pub literal_coded : (i : LiteralFields) → IsGiven (instr.Literal i) → has_full (instr.Literal i) ≡ true → IsCoded (instr.Literal i)
unfolding full_rows has_full
literal_coded i f e =
    let less = ltb-true i.imm 4096 f.fields in
    coded 23 (one_if i.up, (i.t, (i.imm, tt))) _ refl refl (one_bit i.up, (four_bits i.t f.registers, (omega arith, tt)))
    (plain_takes (i.t ∷ []) _ _ (f.registers, tt) e (rw (bit_again i.up) (taken (is_number_of_12_bits i.imm) (instr.Literal i) f.fields)))

-- barriers, and NOP

nothing_of : (op : NothingOp) (option : ℕ) → takes_option op option ≡ true → IsCoded (instr.Nothing (record { op = op; option = option }))
unfolding full_rows
nothing_of Nop option f = coded 14 tt _ refl refl tt (ap (λ (k : ℕ). Ok (instr.Nothing (record { op = Nop; option = k }))) (sym (eqb-true option 0 f)))
nothing_of Dsb option f = let less = leb-true option 15 f in coded 16 (option, tt) _ refl refl (omega arith, tt) (taken (takes_option Dsb option) _ f)
nothing_of Dmb option f = let less = leb-true option 15 f in coded 17 (option, tt) _ refl refl (omega arith, tt) (taken (takes_option Dmb option) _ f)
nothing_of Isb option f = let less = leb-true option 15 f in coded 18 (option, tt) _ refl refl (omega arith, tt) (taken (takes_option Isb option) _ f)

pub nothing_coded : (i : NothingFields) → IsGiven (instr.Nothing i) → has_full (instr.Nothing i) ≡ true → IsCoded (instr.Nothing i)
nothing_coded i f e = nothing_of i.op i.option f.fields

-- fields of bits

five_bits : (lsb : ℕ) → 4 * (lsb / 4) + lsb % 4 ≡ lsb
five_bits lsb = omega arith

extract_takes : (op : FieldOp) (d n lsb width : ℕ) → d ≤ 14 → n ≤ 14 → 1 ≤ width → is_field op (Some n) lsb width ≡ true → lacks_sp (d ∷ n ∷ []) ≡ true
    → extract op n d (4 * (lsb / 4) + lsb % 4) (width - 1) ≡ Ok (instr.Field (record { op = op; d = d; n = Some n; lsb = lsb; width = width }))
unfolding extract
extract_takes op d n lsb width ld ln least f e =
    let again : width - 1 + 1 ≡ width = omega arith in
    plain_takes (d ∷ n ∷ []) _ _ (ld, (ln, tt)) e (rw (five_bits lsb, again) (taken (is_field op (Some n) lsb width) _ f))

within : (lsb width : ℕ) → 1 ≤ width → nat_lt (lsb + width - 1) lsb ≡ false
within lsb width least = grind (arith, nat_tests)

insert_takes : (d n lsb width : ℕ) → d ≤ 14 → n ≤ 14 → 1 ≤ width → is_field Bfi (Some n) lsb width ≡ true → lacks_sp (d ∷ n ∷ []) ≡ true
    → insert n d lsb (lsb + width - 1) ≡ Ok (instr.Field (record { op = Bfi; d = d; n = Some n; lsb = lsb; width = width }))
unfolding insert
insert_takes d n lsb width ld ln least f e =
    let again : lsb + width - 1 - lsb + 1 ≡ width = omega arith in
    if_false (n == 15) _ _ (no_pc n ln) ∙ plain_takes (d ∷ n ∷ []) _ _ (ld, (ln, tt)) e (passed _ _ _ _ (within lsb width least) (rw again (taken (is_field Bfi (Some n) lsb width) _ f)))

clear_takes : (d lsb width : ℕ) → d ≤ 14 → 1 ≤ width → is_field Bfc None lsb width ≡ true → lacks_sp (d ∷ []) ≡ true
    → insert 15 d lsb (lsb + width - 1) ≡ Ok (instr.Field (record { op = Bfc; d = d; n = None; lsb = lsb; width = width }))
unfolding insert
clear_takes d lsb width ld least f e =
    let again : lsb + width - 1 - lsb + 1 ≡ width = omega arith in
    plain_takes (d ∷ []) _ _ (ld, tt) e (passed _ _ _ _ (within lsb width least) (rw again (taken (is_field Bfc None lsb width) _ f)))

field_of : (op : FieldOp) (d : ℕ) (n : Option ℕ) (lsb width : ℕ) → d ≤ 14 → IsSource n → 1 ≤ width → lsb + width ≤ 32 → is_field op n lsb width ≡ true → lacks_sp (d ∷ source_of n) ≡ true
    → IsCoded (instr.Field (record { op = op; d = d; n = n; lsb = lsb; width = width }))
unfolding full_rows
field_of Sbfx d None lsb width ld ln least most f e = absurd (cc)
field_of Ubfx d None lsb width ld ln least most f e = absurd (cc)
field_of Bfi d None lsb width ld ln least most f e = absurd (cc)
field_of Bfc d (Some n) lsb width ld ln least most f e = absurd (cc)
field_of Sbfx d (Some n) lsb width ld ln least most f e =
    coded 9 (n, (lsb / 4, (d, (lsb % 4, (width - 1, tt))))) _ refl refl (four_bits n ln, (omega arith, (four_bits d ld, (omega arith, (omega arith, tt))))) (extract_takes Sbfx d n lsb width ld ln least f e)
field_of Ubfx d (Some n) lsb width ld ln least most f e =
    coded 10 (n, (lsb / 4, (d, (lsb % 4, (width - 1, tt))))) _ refl refl (four_bits n ln, (omega arith, (four_bits d ld, (omega arith, (omega arith, tt))))) (extract_takes Ubfx d n lsb width ld ln least f e)
field_of Bfi d (Some n) lsb width ld ln least most f e =
    coded 11 (n, (lsb / 4, (d, (lsb % 4, (lsb + width - 1, tt))))) _ refl refl (four_bits n ln, (omega arith, (four_bits d ld, (omega arith, (omega arith, tt)))))
    (ap (λ (k : ℕ). insert n d k (lsb + width - 1)) (five_bits lsb) ∙ insert_takes d n lsb width ld ln least f e)
field_of Bfc d None lsb width ld ln least most f e =
    coded 11 (15, (lsb / 4, (d, (lsb % 4, (lsb + width - 1, tt))))) _ refl refl (omega arith, (omega arith, (four_bits d ld, (omega arith, (omega arith, tt)))))
    (ap (λ (k : ℕ). insert 15 d k (lsb + width - 1)) (five_bits lsb) ∙ clear_takes d lsb width ld least f e)

pub field_coded : (i : FieldFields) → IsGiven (instr.Field i) → has_full (instr.Field i) ≡ true → IsCoded (instr.Field i)
unfolding has_full
field_coded i f e =
    let both = and_parts (has_source i.op i.n && nat_le 1 i.width) (nat_le (i.lsb + i.width) 32) f.fields in
    let parts = and_parts (has_source i.op i.n) (nat_le 1 i.width) both.0 in
    field_of i.op i.d i.n i.lsb i.width f.registers.0 f.registers.1 (leb-true 1 i.width parts.1) (leb-true (i.lsb + i.width) 32 both.1) f.fields e
