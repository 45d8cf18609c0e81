-- Texts are numbers in one way.
use Rattle.std.proofs.Common.{◌≡◌, ◌≢◌, ◌<◌, ◌≤◌, ◌^◌, inl, inr, ℕ, List, [], ◌∷◌, ◌++◌, length, get_or, Option, Some, None, Err, lit<, refl, sym, ap, ◌∙◌, subst, arith}
use Rattle.std.specs.Prelude.{All, MatchOption, codes}
use Rattle.std.specs.Option.{option_copied}
use denote.Ref.{Bor}
use Rattle.std.specs.Fmt.{decimal}
use Rattle.std.specs.Char.{digit_value}
use Rattle.std.specs.Str.Parse.{digits_value, AllDigits, ParsesUnsigned, IsNumeral}
use Rattle.std.proofs.Math.Nat.{pow-le-pow_right}
use Rattle.std.proofs.lemmas.Bool.Decides.{nat_tests}
use Rattle.std.proofs.lemmas.Fmt.{decimal_injective}
use Rattle.std.proofs.lemmas.Int.Digits.{digits_value-lt}
use Rattle.std.proofs.lemmas.List.Elements.{All-head, All-tail}
use Rattle.std.proofs.lemmas.Str.Parse.{without_leading_plus_none}
use Rattle.guard_words.specs.Words.{IsHexDigit, IsHexadecimal, IsNumber, IsNumberOf}
use Rattle.skip_machine.specs.Decimals.{IsPlain}
use Rattle.skip_machine.proofs.DecimalTexts.{decimal_is_plain}

plain_is_no_prefix : (digits : List ℕ) → IsPlain (codes "0x" ++ digits) → ⊥
plain_is_no_prefix digits plain = let one = plain.no_zero refl in absurd (omega arith)

decimal_is_no_prefix : (text digits : List ℕ) (n : ℕ) → n < 2 ^ 64 → text ≡ decimal n → text ≡ codes "0x" ++ digits → ⊥
decimal_is_no_prefix text digits n small e f = plain_is_no_prefix digits (subst IsPlain (sym e ∙ f) (decimal_is_plain n small))

decimal_is_no_hexadecimal : (text : List ℕ) (m n : ℕ) → m < 2 ^ 64 → text ≡ decimal m → IsHexadecimal text n → ⊥
decimal_is_no_hexadecimal text m n small e h = decimal_is_no_prefix text h.digits m small e h.text_is

same_hexadecimal : (text : List ℕ) (m n : ℕ) → IsHexadecimal text m → IsHexadecimal text n → m ≡ n
same_hexadecimal text m n a b =
    let e = a.text_is in
    let f = b.text_is in
    let d : a.digits ≡ b.digits = cc in
    a.value ∙ ap (λ ds. digits_value 16 ds) d ∙ sym b.value

-- A text is one number at most.
pub same_number : (text : List ℕ) (m n : ℕ) → IsNumber text m → IsNumber text n → m ≡ n
same_number text m n (inl a) (inl b) = decimal_injective m n (omega (arith, a.0)) (omega (arith, b.0)) (sym a.1 ∙ b.1)
same_number text m n (inl a) (inr b) = absurd (decimal_is_no_hexadecimal text m n (omega (arith, a.0)) a.1 b)
same_number text m n (inr a) (inl b) = absurd (decimal_is_no_hexadecimal text n m (omega (arith, b.0)) b.1 a)
same_number text m n (inr a) (inr b) = same_hexadecimal text m n a b

-- hexadecimal digits
digit_fits : (c : ℕ) → IsHexDigit c → digit_value c < 16
digit_fits c h = grind (arith, nat_tests)

digit_is_no_plus : (c : ℕ) → IsHexDigit c → c ≢ 43
digit_is_no_plus c (inl h) = λ e. absurd (omega (arith, h.0))
digit_is_no_plus c (inr h) = λ e. absurd (omega (arith, h.0))

digits_fit : (digits : List ℕ) → All IsHexDigit digits → AllDigits 16 digits
digits_fit [] all = tt
digits_fit (c ∷ cs) all = (digit_fits c (All-head IsHexDigit c cs all), digits_fit cs (All-tail IsHexDigit c cs all))

first_is_no_plus : (digits : List ℕ) → All IsHexDigit digits → get_or digits 0 0 ≢ 43
first_is_no_plus [] all = λ e. absurd (omega arith)
first_is_no_plus (c ∷ cs) all = digit_is_no_plus c (All-head IsHexDigit c cs all)

eight_digits : (k : ℕ) → k ≤ 8 → 16 ^ k ≤ 2 ^ 32
eight_digits k few = pow-le-pow_right (lit< tt) few

-- one to eight hexadecimal digits are read
pub hexadecimal_is_read : {E : Type 0} (digits : List ℕ) (e : E) → ParsesUnsigned {E = E} 32 16 digits (Err e) → (n : ℕ) → IsHexadecimal (codes "0x" ++ digits) n → ⊥
hexadecimal_is_read digits e fails n h =
    let t = h.text_is in
    let same : h.digits ≡ digits = cc in
    let all : All IsHexDigit digits = subst (All IsHexDigit) same h.each in
    let some : 1 ≤ length digits = subst (λ ds. 1 ≤ length ds) same h.some in
    let few : length digits ≤ 8 = subst (λ ds. length ds ≤ 8) same h.few in
    let fits = digits_fit digits all in
    let value : digits_value 16 digits < 2 ^ 32 = omega (arith, digits_value-lt 16 digits fits, eight_digits (length digits) few) in
    let bare = sym (without_leading_plus_none digits (first_is_no_plus digits all)) in
    fails (subst (λ ds. IsNumeral 16 ds × (digits_value 16 ds < 2 ^ 32)) bare ((some, fits), value))

-- what a text with the prefix is read as
pub prefixed_number : (text digits : List ℕ) → text ≡ codes "0x" ++ digits → (r : Option ℕ) →
    MatchOption r ((n : ℕ) → IsHexadecimal (codes "0x" ++ digits) n → ⊥) (λ n. IsHexadecimal (codes "0x" ++ digits) n) →
    MatchOption r ((n : ℕ) → IsNumber text n → ⊥) (λ n. IsNumber text n)
prefixed_number text digits e None none = λ n number. go n number
  where
    go : (n : ℕ) → IsNumber text n → ⊥
    go n (inl h) = decimal_is_no_prefix text digits n (omega (arith, h.0)) h.1 e
    go n (inr h) = none n (subst (λ t. IsHexadecimal t n) e h)
prefixed_number text digits e (Some n) is = inr (subst (λ t. IsHexadecimal t n) (sym e) is)

-- what a decimal is read as
pub plain_number : (text : List ℕ) (n : ℕ) → n < 2 ^ 64 → text ≡ decimal n → (r : Option ℕ) → MatchOption r (2 ^ 32 ≤ n) (λ m. (m ≡ n) × (m < 2 ^ 32)) →
    MatchOption r ((k : ℕ) → IsNumber text k → ⊥) (λ k. IsNumber text k)
plain_number text n fits e None large = λ k number. go k number
  where
    go : (k : ℕ) → IsNumber text k → ⊥
    go k (inl h) = absurd (omega (arith, h.0, decimal_injective k n (omega (arith, h.0)) fits (sym h.1 ∙ e)))
    go k (inr h) = decimal_is_no_hexadecimal text n k fits e h
plain_number text n fits e (Some m) is = inl (is.1, e ∙ ap decimal (sym is.0))

-- the number of an option that is there
pub number_given : (o : Option (Bor (List ℕ))) (t : Bor (List ℕ)) (n m : ℕ) → o ≡ Some t → IsNumberOf (option_copied o) (Some n) → IsNumber t.now m → n ≡ m
number_given o t n m e number own = same_number t.now n m (subst (λ v. IsNumberOf (option_copied v) (Some n)) e number) own
