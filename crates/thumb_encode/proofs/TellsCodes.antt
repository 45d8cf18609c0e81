-- The test tells exactly the instructions that two halfwords stand for.
use Rattle.std.proofs.Common.{◌≡◌, ℕ, refl, false, ◌+◌, ◌*◌, ◌/◌, ◌%◌, ◌^◌, ◌<◌, ◌≤◌, true, ap, sym, ◌∙◌, arith}
use Rattle.std.proofs.lemmas.Bool.Decides.{nat_tests}
use Rattle.thumb_instr.specs.declared.instructions.Instr.{Instr}
use Rattle.thumb_instr.specs.declared.instructions.Instr.TheVariants as instr
use Rattle.thumb_instr.specs.declared.refusals.ItPlace.TheVariants.{Outside}
use Rattle.thumb_instr.specs.Patterns.{decoded}
use Rattle.thumb_instr.specs.HalfRows.{half_rows}
use Rattle.thumb_instr.specs.FullRows.{full_rows}
use Rattle.thumb_instr.specs.Rows.{is_wide}
use Rattle.thumb_instr.specs.Formed.{NamesRegisters, TakesFields}
use Rattle.thumb_encode.specs.declared.codes.Code.TheVariants as code
use Rattle.thumb_encode.specs.Encoding.{StandsFor}
use Rattle.thumb_encode.specs.HasFull.{has_full, HasCode, TellsCodes}
use Rattle.thumb_encode.proofs.Covering.{if_true, chosen}
use Rattle.thumb_encode.proofs.Putting.{IsGiven, IsCoded}
use Rattle.thumb_encode.proofs.Coded.{shift_by_coded, mul_coded, mul_acc_coded, long_mul_coded, div_coded, unary_coded}
use Rattle.thumb_encode.proofs.CodedData.{alu_coded, move_coded, test_coded}
use Rattle.thumb_encode.proofs.CodedNumbers.{wide_coded, half_coded, field_coded, literal_coded, adr_coded, nothing_coded}
use Rattle.thumb_encode.proofs.CodedBranches.{branch_coded, call_coded}
use Rattle.thumb_encode.proofs.CodedAccesses.{access_coded, pair_coded}
use Rattle.thumb_encode.proofs.CodedLists.{multi_coded}
use Rattle.thumb_encode.proofs.FullTold.{code_told}

full_coded : (i : Instr) → IsGiven i → has_full i ≡ true → IsCoded i
unfolding has_full
full_coded (instr.Alu i) f e = alu_coded i f e
full_coded (instr.Move i) f e = move_coded i f e
full_coded (instr.Test i) f e = test_coded i f e
full_coded (instr.ShiftBy i) f e = shift_by_coded i f e
full_coded (instr.Wide i) f e = wide_coded i f e
full_coded (instr.Half i) f e = half_coded i f e
full_coded (instr.Field i) f e = field_coded i f e
full_coded (instr.Unary i) f e = unary_coded i f e
full_coded (instr.Mul i) f e = mul_coded i f e
full_coded (instr.MulAcc i) f e = mul_acc_coded i f e
full_coded (instr.LongMul i) f e = long_mul_coded i f e
full_coded (instr.Div i) f e = div_coded i f e
full_coded (instr.Access i) f e = access_coded i f e
full_coded (instr.Pair i) f e = pair_coded i f e
full_coded (instr.Multi i) f e = multi_coded i f e
full_coded (instr.Literal i) f e = literal_coded i f e
full_coded (instr.Adr i) f e = adr_coded i f e
full_coded (instr.Branch i) f e = branch_coded i f e
full_coded (instr.Call i) f e = call_coded i f e
full_coded (instr.Nothing i) f e = nothing_coded i f e
full_coded (instr.ZeroBranch i) f e = absurd (cc)
full_coded (instr.Jump i) f e = absurd (cc)
full_coded (instr.CallReg i) f e = absurd (cc)
full_coded (instr.It i) f e = absurd (cc)
full_coded (instr.Trap i) f e = absurd (cc)

-- the two halves of a number
halves : (i : Instr) → IsCoded i → HasCode i
halves i code =
    let c = code.number in
    let small = code.small in
    let wide = code.wide in
    let first = c / 2 ^ 16 in
    let second = c % 2 ^ 16 in
    let high : first < 2 ^ 16 = omega arith in
    let low : second < 2 ^ 16 = omega arith in
    let top : 29 ≤ first / 2 ^ 11 = omega arith in
    let begins : is_wide first ≡ true = grind (arith, nat_tests) in
    let whole : first * 2 ^ 16 + second ≡ c = omega arith in (
      first,
      second,
      (
        high,
        low,
        begins,
        if_true (is_wide first) (decoded 32 (full_rows Outside) (first * 2 ^ 16 + second)) (decoded 16 (half_rows Outside) first) begins
            ∙ ap (decoded 32 (full_rows Outside)) whole ∙ code.stands,
      ),
    )

told : (i : Instr) → HasCode i → has_full i ≡ true
told i code =
    let first = code.0 in
    let second = code.1 in
    let is = code.2 in
    code_told (first * 2 ^ 16 + second) i
    (sym (if_true (is_wide first) (decoded 32 (full_rows Outside) (first * 2 ^ 16 + second)) (decoded 16 (half_rows Outside) first) is.2) ∙ is.3)

pub tells_codes : TellsCodes
tells_codes = λ i registers fields. (λ e. halves i (full_coded i (record { registers = registers; fields = fields }) e), λ code. told i code)

pub has_code : (i : Instr) (first second : ℕ) → StandsFor (code.Full first second) i → true ≡ has_full i
has_code i first second is = sym (told i (first, second, is))

pub no_code : (i : Instr) → NamesRegisters i → TakesFields i → ((first second : ℕ) → StandsFor (code.Full first second) i → ⊥) → false ≡ has_full i
no_code i registers fields none =
    chosen (λ b. has_full i ≡ b → false ≡ b) (has_full i)
    (λ e _. let code = halves i (full_coded i (record { registers = registers; fields = fields }) e) in absurd (none code.0 code.1 code.2))
    (λ _ _. refl) refl
