-- A text is a decimal in one way.
use Rattle.std.proofs.Common.{◌≡◌, ◌<◌, ◌^◌, ℕ, zero, suc, List, refl, Ok, Err, Result, sym, ap, ◌∙◌, subst, arith}
use Rattle.std.specs.Fmt.{decimal}
use Rattle.std.specs.Str.Parse.{digits_value, AllDigits, ParsesUnsigned, IsNumeral, without_leading_plus}
use Rattle.std.proofs.lemmas.Fmt.{decimal_digit, decimal-digits_value, first_decimal, parse-decimal}
use Rattle.std.proofs.lemmas.Str.Parse.{IsNumeralModel, numerals_by_value, tells_digits, without_leading_plus_none}
use Rattle.skip_machine.specs.Decimals.{IsPlain}

-- a decimal begins with no zero, unless it is one
pub decimal_is_plain : (n : ℕ) → n < 2 ^ 64 → IsPlain (decimal n)
decimal_is_plain zero small = subst IsPlain (sym (decimal_digit 0 (omega arith))) (record { no_plus = λ e. absurd (omega arith); no_zero = λ e. refl })
decimal_is_plain (suc n) small =
    let first = first_decimal (suc n) (omega arith) small in
    record { no_plus = λ e. absurd (omega arith); no_zero = λ e. absurd (omega arith) }

-- a text that is not plain is no decimal
pub only_plain : (text : List ℕ) → (IsPlain text → ⊥) → (n : ℕ) → n < 2 ^ 64 → text ≡ decimal n → ⊥
only_plain text none n small e = none (subst IsPlain (sym e) (decimal_is_plain n small))

digits_model : IsNumeralModel (AllDigits 10) (digits_value 10)
digits_model = numerals_by_value (AllDigits 10) tells_digits

-- what a plain text is read as
pub plain_is_read : (text : List ℕ) (n : ℕ) → IsPlain text → IsNumeral 10 (without_leading_plus text) × (digits_value 10 (without_leading_plus text) < 2 ^ 64) → n ≡ digits_value 10 (without_leading_plus text) → text ≡ decimal n
plain_is_read text n plain reads is =
    let bare = without_leading_plus_none text plain.no_plus in
    let numeral : IsNumeral 10 text = subst (IsNumeral 10) bare reads.0 in
    let small : digits_value 10 text < 2 ^ 64 = subst (λ t. digits_value 10 t < 2 ^ 64) bare reads.1 in
    let value : n ≡ digits_value 10 text = is ∙ ap (λ t. digits_value 10 t) bare in
    sym (decimal-digits_value digits_model text numeral.1 numeral.0 plain.no_zero small) ∙ ap decimal (sym value)

pub decimal_is_read : {E : Type 0} (text : List ℕ) (e : E) (r : Result ℕ E) → r ≡ Err e → ParsesUnsigned 64 10 text r → (n : ℕ) → n < 2 ^ 64 → text ≡ decimal n → ⊥
decimal_is_read text e r is parses n small written =
    let read : r ≡ Ok n = parse-decimal 64 n text r small small written parses in
    absurd (cc (read, is))
