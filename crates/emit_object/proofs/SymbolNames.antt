-- Names of the functions of targets are names, and local symbols come first.
use Rattle.std.proofs.Common.{◌≡◌, ◌<◌, ◌≤◌, ◌^◌, ℕ, ◌+◌, ◌%◌, Bool, true, false, List, [], ◌∷◌, ◌++◌, length, ap₂, ◌∙◌, sym, refl, arith}
use Rattle.std.specs.Prelude.{not, codes, ◌==◌, ◌&&◌, ◌||◌}
use Rattle.std.specs.List.{list_all, list_any}
use Rattle.std.specs.Fmt.{decimal}
use Rattle.std.proofs.lemmas.Bool.{and_parts, true≢false}
use Rattle.std.proofs.lemmas.Bool.Decides.{nat_tests}
use Rattle.std.proofs.lemmas.Fmt.{decimal_by_steps, length-decimal-le}
use Rattle.std.proofs.lemmas.List.{length-append}
use Rattle.std.proofs.lemmas.List.Folds.{list_all-append}
use Rattle.elf_model.specs.declared.objects.Symbol.{Symbol}
use Rattle.elf_model.specs.Constants.{local}
use Rattle.elf_model.specs.Objects.{is_name, locals_first}
use Rattle.hardened_form.specs.Symbols.{is_shared}
use Rattle.emit_object.specs.TargetSymbols.{target_name}

-- no byte is NUL
abbrev has_no_nul : List ℕ → Bool
has_no_nul bytes = list_all (λ b. not (b == 0)) bytes

digit_is_no_nul : (d : ℕ) → has_no_nul ((48 + d) ∷ []) ≡ true
digit_is_no_nul d = grind (arith, nat_tests)

both_no_nul : (a b : List ℕ) → has_no_nul a ≡ true → has_no_nul b ≡ true → has_no_nul (a ++ b) ≡ true
both_no_nul a b h k = list_all-append (λ x. not (x == 0)) a b ∙ ap₂ (λ (x y : Bool). x && y) h k

decimal_no_nul : (n : ℕ) → n < 2 ^ 64 → has_no_nul (decimal n) ≡ true
decimal_no_nul = decimal_by_steps (λ n ds. has_no_nul ds ≡ true) (λ n below. digit_is_no_nul n) (λ n ds above h. both_no_nul ds ((48 + n % 10) ∷ []) h (digit_is_no_nul (n % 10)))

short_name : (bytes : List ℕ) → length bytes ≤ 4095 → has_no_nul bytes ≡ true → is_name bytes ≡ true
short_name bytes short h = grind (arith, nat_tests, h)

pub target_names : (ordinal old : ℕ) → ordinal < 2 ^ 64 → old < 2 ^ 64 → is_name (target_name ordinal old) ≡ true
target_names ordinal old a b =
    let first = length-decimal-le 20 ordinal (omega arith) (omega arith) a in
    let last = length-decimal-le 20 old (omega arith) (omega arith) b in
    let head : List ℕ = codes "skip." ++ decimal ordinal in
    let one = length-append (codes "skip.") (decimal ordinal) in
    let two = length-append head (codes ".") in
    let three = length-append (head ++ codes ".") (decimal old) in
    short_name (target_name ordinal old) (omega (arith, first, last, one, two, three))
    (both_no_nul (head ++ codes ".") (decimal old) (both_no_nul head (codes ".") (both_no_nul (codes "skip.") (decimal ordinal) refl (decimal_no_nul ordinal a)) refl) (decimal_no_nul old b))

-- local symbols before those that others see
abbrev pub is_local : Symbol → Bool
is_local s = s.bind == local

shared_last : (xs : List Symbol) → list_all is_shared xs ≡ true → (list_any is_local xs ≡ false) × (locals_first xs ≡ true)
shared_last [] h = (refl, refl)
shared_last (x ∷ xs) h =
    let parts = and_parts (is_shared x) (list_all is_shared xs) h in
    let rest = shared_last xs parts.1 in (
      ap₂ (λ (a b : Bool). a || b) (other (is_local x) parts.0) rest.0,
      ap₂ (λ (a b : Bool). (is_local x || not a) && b) rest.0 rest.1 ∙ last (is_local x),
    )
  where
    other : (b : Bool) → not b ≡ true → b ≡ false
    other true e = absurd (true≢false (sym e))
    other false e = refl

    last : (b : Bool) → ((b || true) && true) ≡ true
    last true = refl
    last false = refl

pub locals_come_first : (xs ys : List Symbol) → list_all is_local xs ≡ true → list_all is_shared ys ≡ true → locals_first (xs ++ ys) ≡ true
locals_come_first [] ys h k = (shared_last ys k).1
locals_come_first (x ∷ xs) ys h k =
    let parts = and_parts (is_local x) (list_all is_local xs) h in
    ap₂ (λ (a b : Bool). (a || not (list_any is_local (xs ++ ys))) && b) parts.0 (locals_come_first xs ys parts.1 k)
